-- Laws of tests, and of what is computed over a range of numbers.
use Prim.Native.Nat.{ℕ, zero, suc, ◌+◌, ◌<◌, ◌≤◌}
use mathlib.Core.Path.{◌≡◌, sym, ap, ◌∙◌}
use mathlib.Core.List.{List, [], ◌∷◌, map, head-eq_of_cons-eq, tail-eq_of_cons-eq}
use mathlib.Core.Bool.{true, false}
use native.Mathlib.Omega.{arith}
use borrow.Author.Tests.{eqb-true, eqb-false}
use lib.Dec.{eqb}
use lib.ListN.{replicate}
use Rattle.songcode.proofs.ListLaws.{by_cases}

pub false_not_true : false ≡ true → ⊥
false_not_true h = let z : ◌≡◌ {A = ℕ} 0 1 = cc in omega arith

-- So many numbers, from this one on.
unfoldable pub up_from : ℕ → ℕ → List ℕ
up_from low zero = []
up_from low (suc n) = low ∷ up_from (suc low) n

-- What is computed to be one value all over a range is that value at each number of the range.
pub same_over_range : {A : Type 0} (f : ℕ → A) (x : A) (low n : ℕ) → map f (up_from low n) ≡ replicate n x → (b : ℕ) → low ≤ b → b < low + n → f b ≡ x
unfolding up_from
same_over_range f x low zero e b p q = let z : ⊥ = omega arith in absurd z
same_over_range f x low (suc n) e b p q =
    by_cases
    (eqb low b)
    (λ t. ap f (sym (eqb-true low b t)) ∙ head-eq_of_cons-eq e)
    (λ t. let ne = eqb-false low b t in same_over_range f x (suc low) n (tail-eq_of_cons-eq e) b (omega arith) (omega arith))
