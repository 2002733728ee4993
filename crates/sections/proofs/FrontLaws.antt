-- What a line's first bytes say of it.
use Prim.Native.Nat.{ℕ, ◌+◌, ◌-◌, ◌<◌}
use mathlib.Core.Path.{◌≡◌, refl, sym, ap, ◌∙◌}
use mathlib.Core.List.{List}
use mathlib.Core.Bool.{Bool, not, ◌&&◌}
use native.Mathlib.Omega.{arith}
use borrow.Author.Tests.{ltb-true, ltb-false, eqb-true, eqb-false}
use lib.Dec.{eqb, ltb}
use lib.ListN.{length, get_or, drop}
use Rattle.songcode.specs.Lists.{provided◌then◌else◌, is_empty}
use Rattle.songcode.specs.Bytes.{placed, is_letter}
use Rattle.songcode.specs.Answer.Sections.{key_line, modifier_line, pattern_line, kind_of}
use Rattle.songcode.proofs.ListLaws.{by_cases}
use Rattle.text.specs.Spans.{part, front_blanks, line_at, line_text, past_blank}
use Rattle.text.proofs.ListLaws.{rest_part}
use Rattle.text.proofs.StartLaws.{front_byte, second_byte, past_same, past_other}
use Rattle.settings.specs.Kinds.{letter}
use Rattle.settings.proofs.KindLaws.{kind_by, kind_by_lem}
use Rattle.sections.specs.Runs.{is_pattern_kind, is_pattern_text}

-- It is blank where another place stands behind it.
pub full_told : (s : List ℕ) (at : ℕ) → at < length s → {r : ℕ} → r ≡ past_blank s at → eqb r at ≡ not (is_empty (line_text s (line_at s 0 at)).text)
full_told s at h {r} e =
    by_cases
    (eqb r at)
    (λ t. rw (t, past_same s at 0 h (sym e ∙ eqb-true r at t)))
    (λ t. rw (t, (past_other s at 0 (λ z. eqb-false r at t (e ∙ z))).0))

-- Its kind is seen at its first two bytes.
kind_front : (s : List ℕ) (n at a : ℕ) → a ≡ at + front_blanks (drop at s)
    → kind_of (placed 0 (part a (length s) s)) ≡ kind_of (line_text s (line_at s n at)).text
unfolding kind_by provided◌then◌else◌ is_letter
kind_front s n at a e =
    let l = line_at s n at in
    let t = part l.start l.stop s in
    let c = get_or (drop a s) 1 0 in
    let here = ap (λ (w : List ℕ). kind_of (placed 0 w)) (rest_part s a) ∙ kind_by_lem 0 (drop a s) in
    let first = front_byte (λ (b : ℕ). kind_by b c) refl refl s n at a e in
    let second : kind_by (get_or t 0 0) c ≡ kind_by (get_or t 0 0) (get_or t 1 0)
    = by_cases
    (ltb l.start l.stop)
    (λ u. ap (λ (x : Bool). provided eqb (get_or t 0 0) 64 then key_line else provided eqb (get_or t 0 0) 95 && x then modifier_line else pattern_line)
    (second_byte letter refl refl refl refl s n at a e (ltb-true _ _ u)))
    (λ u. let k : l.stop - l.start ≡ 0 = omega (arith, ltb-false l.start l.stop u) in rw k refl) in
    here ∙ first ∙ second ∙ sym (kind_by_lem l.start t)

pub pattern_front : (s : List ℕ) (n at a : ℕ) → a ≡ at + front_blanks (drop at s) → {r : Bool} → r ≡ is_pattern_text (placed 0 (part a (length s) s))
    → r ≡ is_pattern_text (line_text s (line_at s n at)).text
unfolding is_pattern_text
pattern_front s n at a e h = h ∙ ap is_pattern_kind (kind_front s n at a e)
