-- The length up to the last byte that is no blank, by the blanks in front of the text read backwards.
use Prim.Native.Nat.{ℕ, suc, ◌+◌, ◌-◌, ◌≤◌}
use mathlib.Core.Path.{◌≡◌, refl, sym, ap, ◌∙◌}
use mathlib.Core.List.{List, [], ◌∷◌, ◌++◌, reverse, reverse-cons, reverse-append}
use mathlib.Core.Bool.{Bool, true, false}
use native.Mathlib.Omega.{arith}
use denote.Param.Members.{Mut}
use lib.ListN.{length, length-reverse}
use Rattle.std.proofs.Common.{Option, Some, None, Iter}
use Rattle.std.specs.Fn.{Called}
use Rattle.std.specs.Iterator.{YieldsThen}
use Rattle.std.specs.List.{position, FoldsTo}
use Rattle.std.specs.Option.{MatchOption, IsSomeAnd}
use Rattle.std.specs.Slice.Iter.{iter_rest, iter_steps_back}
use Rattle.std.proofs.lemmas.List.{reverse-reverse}
use Rattle.std.proofs.lemmas.Iterator.{YieldsList}
use Rattle.std.proofs.lemmas.Iterator.Consumers.{YieldsList-from_shown}
use Rattle.std.proofs.lemmas.Iterator.Search.{position_from_yields_List}
use Rattle.songcode.specs.Lists.{provided◌then◌else◌}
use Rattle.songcode.proofs.ListLaws.{by_cases}
use Rattle.text.specs.Spans.{blank, front_blanks, grown, solid_length}
use Rattle.text.proofs.FirstLaws.{full, front_found}

-- A slice from its end.
pub YieldsList-back : {A : Type 0} {s : Iter A} (xs : List A) → iter_rest s ≡ xs → YieldsList iter_steps_back (λ y. y.now) s (reverse xs)
YieldsList-back {A} {s} xs e = rw (sym e) (YieldsList-from_shown iter_steps_back (λ y. y.now) (λ u. reverse (iter_rest u)) (λ u t p. length-reverse _ ∙ p.0)
    (λ u x t p. ap reverse p ∙ reverse-append (iter_rest t) (x.now ∷ [])) s)

-- What `rposition` finds is what `position` finds in the list backwards, counted from the other end.
module _ {S A B F : Type 0} {steps : S → Option A → S → Type 0} {v : A → B} {g : Mut F (A × Unit {0}) Bool} {s : S} {all : List B}
    (test : B → Bool) (u : S) (f : F) (n : ℕ) where
  pub position_from_back : (r : Option ℕ) → (xs : List A) × (o : Option A) × (j : F) × YieldsThen steps s xs o u
      × FoldsTo (λ p x q. Called g p (x, tt) false q) f xs j
      × MatchOption o (r ≡ None) (λ x. IsSomeAnd r (λ i. i + 1 + length xs ≡ n) × ((h : F) × Called g j (x, tt) true h))
      → YieldsList steps v s all
      → ((x : A) (b : Bool) (q : F) → Called g f (x, tt) b q → (q ≡ f) × (b ≡ test (v x)))
      → MatchOption r (None ≡ position test all) (λ i. (m : ℕ) × (m + i + 1 ≡ n) × (Some m ≡ position test all))
  position_from_back r (xs, None, j, y, c, e) road closure =
      rw e (position_from_yields_List test u f None (xs, None, j, y, c, refl) road closure)
  position_from_back None (xs, Some x, j, y, c, e) road closure = absurd e.0
  position_from_back (Some i) (xs, Some x, j, y, c, e) road closure = (
    length xs,
    omega (arith, e.0),
    position_from_yields_List test u f (Some (length xs)) (xs, Some x, j, y, c, (refl, e.1)) road closure,
  )

-- A last byte: a blank adds nothing; with another all before it counts.
solid_blank : (xs : List ℕ) (b : ℕ) → blank b ≡ true → solid_length (xs ++ (b ∷ [])) ≡ solid_length xs
unfolding solid_length grown
solid_blank [] b e = rw e
solid_blank (x ∷ xs) b e = rw (solid_blank xs b e)

solid_full : (xs : List ℕ) (b : ℕ) → blank b ≡ false → solid_length (xs ++ (b ∷ [])) ≡ suc (length xs)
unfolding solid_length grown
solid_full [] b e = rw e
solid_full (x ∷ xs) b e = rw (solid_full xs b e)

solid_reverse : (bs : List ℕ) → solid_length (reverse bs) ≡ length bs - front_blanks bs
unfolding solid_length front_blanks provided◌then◌else◌
solid_reverse [] = refl
solid_reverse (b ∷ bs) =
    by_cases
    (blank b)
    (λ e. rw (reverse-cons b bs, solid_blank (reverse bs) b e, e) (solid_reverse bs ∙ omega arith))
    (λ e. rw (reverse-cons b bs, solid_full (reverse bs) b e, e, length-reverse bs) (omega arith))

solid_is : (t : List ℕ) → solid_length t ≡ length t - front_blanks (reverse t)
solid_is t = rw (length-reverse t, reverse-reverse t) at (solid_reverse (reverse t))

-- The length up to the place that `rposition` finds, and none where it finds none.
pub solid_found : (t : List ℕ) (r : Option ℕ) {n z : ℕ} → n ≡ length t
    → MatchOption r (None ≡ position full (reverse t)) (λ i. (m : ℕ) × (m + i + 1 ≡ n) × (Some m ≡ position full (reverse t)))
    → MatchOption r (z ≡ 0) (λ i. z ≡ i + 1) → (z ≡ solid_length t) × (z ≤ length t)
solid_found t None k e f = let g = front_found (reverse t) e in omega (arith, g, solid_is t, length-reverse t)
solid_found t (Some i) k (m, n, e) f = let g = front_found (reverse t) e in omega (arith, g, solid_is t, length-reverse t)
