-- A lyric line's words as places: what stands before its last word, and the count that the last word may be.
use Prim.Native.Nat.{ℕ, ◌+◌, ◌-◌, ◌<◌, ◌≤◌}
use mathlib.Core.Path.{◌≡◌, refl, sym, ap, ◌∙◌}
use mathlib.Core.List.{List, ◌++◌, reverse, reverse-append, reverse-reverse, append_cancel_right}
use mathlib.Core.Option.{Option, none, some}
use native.Mathlib.Omega.{arith}
use lib.ListN.{length, drop, length-drop, take-append-drop}
use lib.Seq.{length-take-le}
use Rattle.songcode.specs.Lists.{taken, left}
use Rattle.songcode.specs.Bytes.{placed, is_blank, not_blank}
use Rattle.songcode.specs.Answer.Lines.{drop_last}
use Rattle.songcode.specs.Answer.Lyrics.{count_behind, words_by, words_of}
use Rattle.songcode.proofs.ByteLaws.{placed_append}
use Rattle.songcode.proofs.ListLaws.{taken_left}
use Rattle.text.specs.Spans.{part, solid_length}
use Rattle.text.proofs.TrimLaws.{drop_last_placed}
use Rattle.settings.proofs.PartLaws.{part_back, part_front}
use Rattle.settings.proofs.LyricLaws.{reverse_part}

-- A text before a place, and behind it.
placed_parts : (s : List ℕ) (a r e : ℕ) → a ≤ r → r ≤ e → e ≤ length s → placed a (part a e s) ≡ placed a (part a r s) ++ placed r (part r e s)
placed_parts s a r e h k l =
    let n = length-drop a s in
    let m = length-take-le (r - a) (drop a s) (omega arith) in
    let f : a + (r - a) ≡ r = omega arith in
    ap (placed a) (sym (take-append-drop (r - a) (part a e s)))
    ∙ rw (part_front s a e (r - a) (omega arith), part_back s a e (r - a), f, placed_append a (part a r s) (part r e s), m, f)

pub last_word : (s : List ℕ) (a r e : ℕ) → a ≤ r → r ≤ e → e ≤ length s
    → left not_blank (reverse (placed a (part a e s))) ≡ reverse (placed a (part a r s))
    → reverse (taken not_blank (reverse (placed a (part a e s)))) ≡ placed r (part r e s)
last_word s a r e h k l f =
    let whole = ap reverse (placed_parts s a r e h k l) ∙ reverse-append (placed a (part a r s)) (placed r (part r e s)) in
    let split = sym (ap (λ ys. taken not_blank (reverse (placed a (part a e s))) ++ ys) f) ∙ taken_left not_blank (reverse (placed a (part a e s))) in
    let same : taken not_blank (reverse (placed a (part a e s))) ≡ reverse (placed r (part r e s)) = append_cancel_right _ _
    (reverse (placed a (part a r s))) (split ∙ whole) in
    ap reverse same ∙ reverse-reverse (placed r (part r e s))

module _ (s : List ℕ) (a r e : ℕ) (h : a ≤ r) (k : r ≤ e) (l : e ≤ length s)
    (f : left not_blank (reverse (placed a (part a e s))) ≡ reverse (placed a (part a r s))) where
  words_by_lem : (o : Option ℕ) → count_behind (placed r (part r e s)) ≡ o
      → words_of (placed a (part a e s)) ≡ words_by (placed a (part a e s)) (reverse (placed a (part a r s))) o
  unfolding words_of
  words_by_lem o g = rw (last_word s a r e h k l f, f, g)

  -- Nothing stands before the last word; it is no count; it is one.
  pub words_alone : r ≡ a → words_of (placed a (part a e s)) ≡ record { text = placed a (part a e s); count = none }
  unfolding words_by placed
  words_alone g = let z : r - a ≡ 0 = omega arith in words_by_lem (count_behind (placed r (part r e s))) refl ∙ rw z

  pub words_uncounted : a < r → count_behind (placed r (part r e s)) ≡ none
      → words_of (placed a (part a e s)) ≡ record { text = placed a (part a e s); count = none }
  unfolding words_by
  words_uncounted b g = words_by_lem none g ∙ rw (reverse_part s a r b (omega arith))

  pub words_counted : (m n : ℕ) → a < r → count_behind (placed r (part r e s)) ≡ some n → m ≡ solid_length (part a r s) → m ≤ r - a
      → words_of (placed a (part a e s)) ≡ record { text = placed a (part a (a + m) s); count = some n }
  unfolding words_by drop_last
  words_counted m n b g c d =
      words_by_lem (some n) g
      ∙ rw (reverse_part s a r b (omega arith))
      (ap (λ ys. record { text = ys; count = some n }) (ap (λ ys. reverse (left is_blank ys)) (sym (reverse_part s a r b (omega arith)))
      ∙ drop_last_placed a (part a r s) ∙ rw (sym c, part_front s a r m d)))
