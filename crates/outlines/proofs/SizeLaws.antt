-- Sizes joined: the least number that two numbers divide, looked for one after another.
use Prim.Native.Nat.{ℕ, zero, suc, ◌+◌, ◌*◌, ◌<◌, ◌≤◌, min}
use mathlib.Core.Path.{◌≡◌}
use mathlib.Core.Bool.{Bool, true, false}
use native.Mathlib.Omega.{arith}
use native.Mathlib.Nat.{mul-le-mul}
use borrow.Author.Tests.{eqb-true, eqb-false, leb-true, leb-false}
use lib.Dec.{eqb, leb}
use Rattle.std.proofs.Common.{Option, None, Some, MatchOption}
use Rattle.std.specs.Option.{unwrap_or}
use Rattle.songcode.specs.Lists.{provided◌then◌else◌}
use Rattle.songcode.proofs.ListLaws.{by_cases}
use Rattle.outlines.specs.Sizes.{first_from}

-- The number that a search from m on finds, or the end where it finds none.
pub first_is : (test : ℕ → Bool) (k m end : ℕ) (r : Option ℕ) → end ≡ m + k
    → MatchOption r ((j : ℕ) → m ≤ j → j < end → test j ≡ false)
    (λ i. (m ≤ i) × (i < end) × (test i ≡ true) × ((j : ℕ) → m ≤ j → j < i → test j ≡ false))
    → unwrap_or r end ≡ first_from test k m
unfolding first_from provided◌then◌else◌
first_is test zero m end None e f = omega arith
first_is test zero m end (Some i) e f = absurd (omega (arith, f.0, f.1))
first_is test (suc k) m end None e f =
    rw (f m (omega arith) (omega arith)) (first_is test k (m + 1) end None (omega arith) (λ j l u. f j (omega arith) u))
first_is test (suc k) m end (Some i) e f = by_cases (eqb i m)
    (λ y. let z = eqb-true i m y in
    let t : test m ≡ true = rw z at f.2 in rw t z)
    (λ y. let z = eqb-false i m y in
    let l = f.0 in
    rw (f.3 m (omega arith) (omega arith))
    (first_is test k (m + 1) end (Some i) (omega arith) (omega arith, f.1, f.2, λ j v u. f.3 j (omega arith) u)))

-- A product is capped after its factor.
pub min_times : (n a : ℕ) → min 65536 (n * min 65536 a) ≡ min 65536 (n * a)
min_times n a = by_cases (leb a 65536)
    (λ e. let h = leb-true a 65536 e in
    let m : min 65536 a ≡ a = omega arith in rw m)
    (λ e. let h = leb-false a 65536 e in
    let m : min 65536 a ≡ 65536 = omega arith in rw m (many n a (omega arith)))
  where
    many : (k b : ℕ) → 65536 ≤ b → min 65536 (k * 65536) ≡ min 65536 (k * b)
    many zero b l = omega arith
    many (suc k) b l =
        let one : 1 ≤ suc k = omega arith in
        let p : 1 * 65536 ≤ suc k * b = mul-le-mul one l in
        let q : 65536 ≤ suc k * 65536 = omega arith in
        omega arith
