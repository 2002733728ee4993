-- One step of each definition of Spans at a place of a text: what the loops of the lines cite.
use Prim.Native.Nat.{ℕ, suc, ◌+◌, ◌<◌, ◌≤◌, max}
use mathlib.Core.Path.{◌≡◌, refl, sym, ◌∙◌}
use mathlib.Core.List.{List}
use mathlib.Core.Bool.{true, false}
use native.Mathlib.Numerals.{add-one}
use native.Mathlib.Omega.{arith}
use native.Mathlib.Nat.{add-zero}
use borrow.Author.Tests.{ne_eqb, eqb-true, eqb-false, leb-true, leb-false}
use lib.Dec.{eqb, leb}
use lib.ListN.{length, get_or, drop, drop_of_length-le, get_or-eq_default}
use lib.Seq.{drop-cons, get_or-drop}
use Rattle.songcode.specs.Lists.{provided◌then◌else◌}
use Rattle.songcode.specs.Bytes.{is_blank}
use Rattle.songcode.specs.Answer.Lines.{Ending, lf, cr, inside, ending}
use Rattle.songcode.proofs.ListLaws.{by_cases}
use Rattle.text.proofs.TestLaws.{false_not_true}
use Rattle.text.specs.Spans.{blank, end, ends, longer, line_length, break_width, break_length}

-- What a byte is to lines.
pub end_inside : (b : ℕ) → (b ≡ 10 → ⊥) → (b ≡ 13 → ⊥) → end b ≡ inside
unfolding ending provided◌then◌else◌
end_inside b p q = rw (ne_eqb _ _ p, ne_eqb _ _ q)

end_lf : (b : ℕ) → b ≡ 10 → end b ≡ lf
unfolding ending provided◌then◌else◌
end_lf b e = rw e

end_cr : (b : ℕ) → b ≡ 13 → end b ≡ cr
unfolding ending provided◌then◌else◌
end_cr b e = rw e

-- A blank ends no line.
pub blank_inside : (b : ℕ) → blank b ≡ true → end b ≡ inside
unfolding is_blank
blank_inside b e = end_inside b (λ z. false_not_true (rw z at e)) (λ z. false_not_true (rw z at e))

-- A line ends with one of the two, and with no other byte.
pub ends_lf : (b : ℕ) → b ≡ 10 → true ≡ ends (end b)
unfolding ends
ends_lf b e = rw (end_lf b e)

pub ends_cr : (b : ℕ) → b ≡ 13 → true ≡ ends (end b)
unfolding ends
ends_cr b e = rw (end_cr b e)

pub ends_none : (b : ℕ) → (b ≡ 10 → ⊥) → (b ≡ 13 → ⊥) → false ≡ ends (end b)
unfolding ends
ends_none b p q = rw (end_inside b p q)

-- The three cases of a byte, each with what it says.
pub by_ending : {X : Type 0} (b : ℕ) → (end b ≡ inside → X) → (end b ≡ lf → X) → (end b ≡ cr → X) → X
by_ending {X} b f g h = go (end b) refl
  where
    go : (k : Ending) → end b ≡ k → X
    go inside e = f e
    go lf e = g e
    go cr e = h e

module _ (s : List ℕ) (i : ℕ) (h : i < length s) where
  pub line_stop_lem : ends (end (get_or s i 0)) ≡ true → line_length (drop i s) ≡ 0
  unfolding line_length longer ends
  line_stop_lem e =
      rw (drop-cons s i 0) (by_ending (get_or s i 0) (λ k. absurd (false_not_true (rw k at e))) (λ k. rw k) (λ k. rw k))

  pub line_more : ends (end (get_or s i 0)) ≡ false → line_length (drop i s) ≡ 1 + line_length (drop (i + 1) s)
  unfolding line_length longer ends
  line_more e =
      rw (add-one i, drop-cons s i 0)
      (by_ending (get_or s i 0) (λ k. rw k (omega arith)) (λ k. absurd (false_not_true (sym (rw k at e)))) (λ k. absurd (false_not_true (sym (rw k at e)))))

module _ (s : List ℕ) (i : ℕ) (h : length s ≤ i) where
  pub line_over : line_length (drop i s) ≡ 0
  unfolding line_length
  line_over = rw (drop_of_length-le s h)

  break_over : break_length (drop i s) ≡ break_width (end (get_or s i 0)) (end (get_or s (i + 1) 0))
  unfolding break_length break_width ending provided◌then◌else◌
  break_over = rw (drop_of_length-le s h, get_or-eq_default s 0 h)

-- The line end at a place, by the byte there and the next, which past the end are zeros.
break_at : (s : List ℕ) (i : ℕ) → break_length (drop i s) ≡ break_width (end (get_or s i 0)) (end (get_or s (i + 1) 0))
unfolding break_length
break_at s i = by_cases (leb (length s) i) (λ t. break_over s i (leb-true _ _ t)) (λ t. within (leb-false _ _ t))
  where
    within : i < length s → break_length (drop i s) ≡ break_width (end (get_or s i 0)) (end (get_or s (i + 1) 0))
    within h = let next : get_or (drop (suc i) s) 0 0 ≡ get_or s (i + 1) 0 = simp (get_or-drop, add-zero, add-one) in rw (drop-cons s i 0, next)

-- A byte that is not 0 is in the text.
pub in_text : (s : List ℕ) (i : ℕ) → 1 ≤ get_or s i 0 → i < length s
in_text s i h =
    by_cases (leb (length s) i) (λ t. let z : get_or s i 0 ≡ 0 = get_or-eq_default s 0 (leb-true _ _ t) in absurd (omega arith)) (λ t. leb-false _ _ t)

-- So many bytes are the line end at a place, and lie in the text.
abbrev Breaks : List ℕ → ℕ → ℕ → Type 0
Breaks s i n = (n ≡ break_length (drop i s)) × (i + n ≤ max i (length s))

pub break_lf : (s : List ℕ) (i : ℕ) → get_or s i 0 ≡ 10 → Breaks s i 1
unfolding break_width
break_lf s i e = let l = in_text s i (omega arith) in (sym (break_at s i ∙ rw (end_lf (get_or s i 0) e)), omega arith)

pub break_none : (s : List ℕ) (i : ℕ) → (get_or s i 0 ≡ 10 → ⊥) → (get_or s i 0 ≡ 13 → ⊥) → Breaks s i 0
unfolding break_width
break_none s i n m = (sym (break_at s i ∙ rw (end_inside (get_or s i 0) n m)), omega arith)

pub break_crlf : (s : List ℕ) (i : ℕ) → get_or s i 0 ≡ 13 → get_or s (i + 1) 0 ≡ 10 → Breaks s i 2
unfolding break_width
break_crlf s i e f =
    let l = in_text s (i + 1) (omega arith) in
    (sym (break_at s i ∙ rw (end_cr (get_or s i 0) e, end_lf (get_or s (i + 1) 0) f)), omega arith)

pub break_cr : (s : List ℕ) (i : ℕ) → get_or s i 0 ≡ 13 → (get_or s (i + 1) 0 ≡ 10 → ⊥) → Breaks s i 1
unfolding break_width
break_cr s i e n =
    let b = get_or s (i + 1) 0 in
    let l = in_text s i (omega arith) in (
      sym (break_at s i ∙ by_cases
          (eqb b 13)
          (λ t. rw (end_cr (get_or s i 0) e, end_cr b (eqb-true b 13 t)))
          (λ t. rw (end_cr (get_or s i 0) e, end_inside b n (eqb-false b 13 t)))),
      omega arith,
    )
