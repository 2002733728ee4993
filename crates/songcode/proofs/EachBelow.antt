-- A test that every number below a bound passes, computed once, holds of each.
use Prim.Native.Nat.{ℕ, zero, suc, ◌<◌}
use native.Mathlib.Omega.{arith}
use mathlib.Core.Path.{◌≡◌}
use mathlib.Core.Bool.{Bool, true, ◌&&◌}
use lib.Dec.{ltb}
use borrow.Author.Tests.{ltb-true, ltb-false}
use Rattle.songcode.proofs.ListLaws.{by_cases, both_pass}

unfoldable pub all_below : (ℕ → Bool) → ℕ → Bool
all_below p zero = true
all_below p (suc n) = p n && all_below p n

pub each_below : (p : ℕ → Bool) (n : ℕ) → all_below p n ≡ true → (i : ℕ) → i < n → p i ≡ true
unfolding all_below
each_below p zero e i h = absurd (omega arith)
each_below p (suc n) e i h =
    let b = both_pass (p n) (all_below p n) e in
    by_cases (ltb i n)
    (λ t. each_below p n b.1 i (ltb-true i n t))
    (λ f. let g = ltb-false i n f in
    let z : i ≡ n = omega arith in rw z b.0)
