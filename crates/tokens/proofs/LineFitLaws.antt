-- The line at a place lies in the text: where what is read of it stops, and that a line before another has a line end.
use Prim.Native.Nat.{ℕ, zero, suc, ◌+◌, ◌-◌, ◌<◌, ◌≤◌}
use mathlib.Core.Path.{◌≡◌}
use mathlib.Core.List.{List, [], ◌∷◌}
use native.Mathlib.Omega.{arith}
use native.Mathlib.Nat.{sub-zero}
use borrow.Author.Tests.{ltb-true, ltb-false}
use lib.Dec.{ltb}
use lib.ListN.{length, take, drop, get_or, length-take, length-drop}
use Rattle.songcode.specs.Lists.{provided◌then◌else◌}
use Rattle.songcode.specs.Bytes.{is_blank}
use Rattle.songcode.specs.Answer.Lines.{cr, ending}
use Rattle.songcode.proofs.ListLaws.{by_cases}
use Rattle.text.specs.declared.lines.Line.{Line}
use Rattle.text.specs.Spans.{end, longer, line_length, break_width, break_length, front_blanks, line_of, Found}
use Rattle.text.proofs.SpanLaws.{by_ending}
use Rattle.text.proofs.TrimLaws.{solid_le}
use Rattle.text.proofs.WalkLaws.{whole, cr_breaks}

-- The first line of a text and its line end lie in the text; a line without line end is the last.
cr_width : (bs : List ℕ) → break_width cr (end (get_or bs 0 0)) ≤ suc (length bs)
unfolding break_width ending provided◌then◌else◌
cr_width [] = omega arith
cr_width (b ∷ bs) = by_ending b (λ e. rw e (omega arith)) (λ e. rw e (omega arith)) (λ e. rw e (omega arith))

pub record Fits (bs : List ℕ) : Type 0 where
  pub line : line_length bs ≤ length bs
  pub both : whole bs ≤ length bs
  pub last : whole bs ≤ line_length bs → length bs ≤ line_length bs

pub line_fits : (bs : List ℕ) → Fits bs
unfolding line_length longer break_length break_width
line_fits [] = record { line = omega arith; both = omega arith; last = λ e. omega arith }
line_fits (b ∷ bs) =
    let h = line_fits bs in
    let p = h.line in
    let q = h.both in
    by_ending b
    (λ e. record {
      line = rw e (omega arith);
      both = rw e (omega arith);
      last = rw e (λ (z : suc (line_length bs) + break_length (drop (line_length bs) bs) ≤ suc (line_length bs)). let k = h.last (omega arith) in
          omega arith);
    })
    (λ e. record { line = rw e (omega arith); both = rw (e, e) (omega arith); last = rw (e, e) (λ (z : 0 + 1 ≤ 0). let x : ⊥ = omega arith in absurd x) })
    (λ e. record {
      line = rw e (omega arith);
      both = rw (e, e) (omega (arith, cr_width bs));
      last = rw (e, e) (λ (z : 0 + break_width cr (end (get_or bs 0 0)) ≤ 0). let x : ⊥ = omega (arith, cr_breaks (end (get_or bs 0 0))) in
          absurd x);
    })

pub front_le : (bs : List ℕ) → front_blanks bs ≤ length bs
unfolding front_blanks provided◌then◌else◌
front_le [] = omega arith
front_le (b ∷ bs) = let h = front_le bs in by_cases (is_blank (record { place = 0; value = b })) (λ e. rw e (omega arith)) (λ e. rw e (omega arith))

-- What is left of a line behind some of its bytes.
pub line_rest : (k : ℕ) (bs : List ℕ) → k ≤ line_length bs → line_length (drop k bs) ≡ line_length bs - k
unfolding line_length longer
line_rest zero bs h = rw sub-zero
line_rest (suc k) [] h = absurd (omega arith)
line_rest (suc k) (b ∷ bs) h =
    by_ending b
    (λ e. let g : suc k ≤ suc (line_length bs) = rw e at h in
    let r = line_rest k bs (omega arith) in rw e (omega arith))
    (λ e. let g : suc k ≤ 0 = rw e at h in absurd (omega arith))
    (λ e. let g : suc k ≤ 0 = rw e at h in absurd (omega arith))

-- A line that was found behind which another stands stops before that one.
pub found_before : (s : List ℕ) {n at : ℕ} {l : Line} → Found s n at l → l.next < length s → l.stop < l.next
unfolding line_of
found_before s {n} {at} f =
    let bs = drop at s in
    let len = line_length bs in
    let k = front_blanks (take len bs) in
    let u = take (len - k) (drop k bs) in
    let fit = line_fits bs in
    let within = fit.line in
    let size = length-drop at s in
    let short = solid_le u in
    let cut = length-take (len - k) (drop k bs) in
    let front = front_le (take len bs) in
    let frontmost = length-take len bs in
    rw f.is (λ z. by_cases (ltb len (whole bs))
    (λ e. let w = ltb-true len (whole bs) e in omega arith)
    (λ e. let w = fit.last (ltb-false len (whole bs) e) in omega arith))
