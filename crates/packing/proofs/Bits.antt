-- A word parted at its bits by quotients and remainders.
use Prim.Native.Nat.{ℕ, zero, suc, ◌+◌, ◌*◌, ◌/◌, ◌%◌, ◌<◌}
use mathlib.Core.Path.{◌≡◌, refl, sym}
use mathlib.Core.Bool.{Bool, true, false}
use native.Mathlib.Nat.{div-div-eq-div-mul, div-add-mod'}
use native.Mathlib.Omega.{arith}
use lib.Dec.{eqb}
use Rattle.songcode.specs.Answer.Tables.{head_bit}

-- What stands from a bit on is one field and, above it, what stands from the next field's bit on.
pub field_and_above : (word low size : ℕ) → word / low ≡ word / (low * size) * size + word / low % size
field_and_above word low size = rw (← div-div-eq-div-mul) (sym (div-add-mod' (word / low) size))

-- One bit, told by whether it is 1.
pub bit_told : (bit : ℕ) → bit < 2 → head_bit (eqb bit 1) ≡ bit
unfolding head_bit
bit_told zero h = refl
bit_told (suc zero) h = refl
bit_told (suc (suc bit)) h = let z : ⊥ = omega arith in absurd z

-- Heads with one bit are one head.
pub bit_one : (a b : Bool) → head_bit a ≡ head_bit b → a ≡ b
unfolding head_bit
bit_one true true h = refl
bit_one true false h = let z : ⊥ = omega arith in absurd z
bit_one false true h = let z : ⊥ = omega arith in absurd z
bit_one false false h = refl
