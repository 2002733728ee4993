-- Line ends, one byte at a time: what the loop of line_ends cites.
use Prim.Native.Nat.{ℕ, suc, ◌+◌, ◌<◌, ◌≤◌}
use mathlib.Core.Path.{◌≡◌, refl, sym, ap, ◌∙◌}
use mathlib.Core.List.{List, [], ◌∷◌}
use mathlib.Core.Bool.{Bool, true, false}
use native.Mathlib.Omega.{arith}
use native.Mathlib.Nat.{add-zero}
use native.Mathlib.Numerals.{add-one}
use lib.Dec.{eqb}
use lib.ListN.{length, get_or, take, drop, drop_of_length-le}
use lib.Seq.{drop-cons, get_or-drop}
use Rattle.songcode.specs.Lists.{provided◌then◌else◌}
use Rattle.songcode.specs.Bytes.{Byte, placed}
use Rattle.songcode.specs.Answer.Lines.{ending, ending_of, LineCut, put, cut_lines}
use Rattle.songcode.specs.Answer.Answer.{line_of_place}
use Rattle.songcode.proofs.ListLaws.{by_cases}
use Rattle.text.specs.Ends.{ends_line, line_ends}

-- A line more, if the test says so.
unfoldable one_if : Bool → ℕ
one_if true = 1
one_if false = 0

put_ends : (b next : Byte) (c : LineCut) → length (put (ending b) (ending next) b c).others ≡ one_if (ends_line b.value next.value) + length c.others
unfolding put ending ends_line one_if provided◌then◌else◌
put_ends b next c =
    by_cases
    (eqb b.value 10)
    (λ e. rw e (omega arith))
    (λ e. by_cases
    (eqb b.value 13)
    (λ f. by_cases
    (eqb next.value 10)
    (λ g. rw (e, f, g) (omega arith))
    (λ g. by_cases (eqb next.value 13) (λ k. rw (e, f, g, k) (omega arith)) (λ k. rw (e, f, g, k) (omega arith))))
    (λ f. rw (e, f) (omega arith)))

-- Behind the end of the text no line end stands, nor is a zero one.
ending_next : (at : ℕ) (bs : List ℕ) → ending_of (placed at bs) ≡ ending (record { place = at; value = get_or bs 0 0 })
unfolding ending_of placed ending provided◌then◌else◌
ending_next at [] = refl
ending_next at (b ∷ bs) = refl

ends_cons : (at b : ℕ) (bs : List ℕ) → length (cut_lines (placed at (b ∷ bs))).others ≡ one_if (ends_line b (get_or bs 0 0)) + length
    (cut_lines (placed (suc at) bs)).others
unfolding cut_lines placed
ends_cons at b bs = rw (ending_next (suc at) bs) (put_ends (record { place = at; value = b }) (record { place = suc at; value = get_or bs 0 0 })
    (cut_lines (placed (suc at) bs)))

-- Where the text stands does not matter.
ends_anywhere : (at to : ℕ) (bs : List ℕ) → length (cut_lines (placed at bs)).others ≡ length (cut_lines (placed to bs)).others
unfolding cut_lines placed
ends_anywhere at to [] = refl
ends_anywhere at to (b ∷ bs) = ends_cons at b bs ∙ ap (λ (n : ℕ). one_if (ends_line b (get_or bs 0 0)) + n) (ends_anywhere (suc at) (suc to) bs)
    ∙ sym (ends_cons to b bs)

ends_more : (s : List ℕ) (i : ℕ) → i < length s → line_ends (drop i s) ≡ one_if (ends_line (get_or s i 0) (get_or s (i + 1) 0)) + line_ends (drop (i + 1) s)
ends_more s i h =
    let next : get_or (drop (suc i) s) 0 0 ≡ get_or s (i + 1) 0 = simp (get_or-drop, add-zero, add-one) in
    let here = ends_cons 0 (get_or s i 0) (drop (suc i) s) in
    rw (← next, add-one i, drop-cons s i 0) (here ∙ ap (λ (n : ℕ). one_if (ends_line (get_or s i 0) (get_or (drop (suc i) s) 0 0)) + n)
    (ends_anywhere 1 0 (drop (suc i) s)))

-- The same by the two bytes as they were read, and by the test's answer.
module _ (s : List ℕ) (i : ℕ) (h : i < length s) {next : ℕ} (n : next ≡ get_or s (i + 1) 0) {test : Bool} (t : test ≡ ends_line (get_or s i 0) next) where
  here : line_ends (drop i s) ≡ one_if test + line_ends (drop (i + 1) s)
  here = rw (t, n) (ends_more s i h)

  pub ends_yes : test ≡ true → line_ends (drop i s) ≡ 1 + line_ends (drop (i + 1) s)
  unfolding one_if
  ends_yes e = here ∙ rw e

  pub ends_no : test ≡ false → line_ends (drop i s) ≡ line_ends (drop (i + 1) s)
  unfolding one_if
  ends_no e = here ∙ rw e (omega arith)

pub ends_over : (s : List ℕ) (i : ℕ) → length s ≤ i → line_ends (drop i s) ≡ 0
unfolding cut_lines placed
ends_over s i h = rw (drop_of_length-le s h)

-- The line of a place, from the line ends before it.
pub line_within : (s : List ℕ) (at : ℕ) {n : ℕ} → n ≡ line_ends (take at s) → n + 1 ≡ line_of_place at s
unfolding line_of_place
line_within s at {n} e = rw (add-one n) (ap suc e)
