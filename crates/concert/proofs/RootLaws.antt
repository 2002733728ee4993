-- The remainder by twelve of a root and a signed shift, and the range of shifts.
use Prim.Native.Nat.{ℕ, suc, ◌+◌, ◌*◌}
use mathlib.Core.Path.{◌≡◌, refl}
use mathlib.Core.Bool.{true}
use native.Mathlib.Omega.{arith}
use lib.Dec.{leb}
use lib.IntN.{ℤ, pos, negsuc, ◌+ℤ◌}
use lib.Signed.{◌≤ℤ◌}
use borrow.Author.Tests.{leb-true}
use Rattle.std.specs.Int.{int_rem_euclid}
use Rattle.std.proofs.lemmas.Int.{ints, int_rem_euclid_is}
use Rattle.songcode.proofs.ListLaws.{both_pass}
use Rattle.concert.specs.Pitches.{is_allowed, upward, moved_root}

-- From -11 to 20.
pub record Small (z : ℤ) : Type 0 where
  pub not_low : negsuc 10 ≤ℤ z
  pub not_high : z ≤ℤ pos 20

pub allowed_small : (z : ℤ) → is_allowed z ≡ true → Small z
unfolding is_allowed
allowed_small (pos n) t = let h = leb-true n 20 (both_pass true (leb n 20) t).1 in record { not_low = omega (arith, ints); not_high = omega (arith, ints) }
allowed_small (negsuc n) t = let h = leb-true n 10 (both_pass (leb n 10) true t).0 in record { not_low = omega (arith, ints); not_high = omega (arith, ints) }

pub root_reduced : (root : ℕ) (z y : ℤ) → y ≡ pos root +ℤ z → int_rem_euclid y (pos 12) ≡ pos (moved_root z root)
unfolding moved_root upward
root_reduced root (pos n) y e = int_rem_euclid_is y (pos 12) 12 0 (root + n) (omega arith) refl (omega (arith, ints, e))
root_reduced root (negsuc n) y e = int_rem_euclid_is y (pos 12) 12 (suc n) (root + 11 * suc n) (omega arith) refl (omega (arith, ints, e))
