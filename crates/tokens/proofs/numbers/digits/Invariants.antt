-- Digit by digit: the number so far with the bytes that are left says what all say; a byte that is no digit, or one digit too many, ends it.
use Rattle.tokens.specs.Decimals.{digits_from}
use Rattle.songcode.specs.Bytes.{placed}
use lib.ListN.{drop}
use mathlib.Core.Path.{◌≡◌}
use Prim.Native.Nat.{◌≤◌}
use Rattle.tokens.proofs.numbers.digits.Given as goal

abbrev pub invariant-loop-b : goal.invariant-loop-b
invariant-loop-b l =
    (l.v ≤ 9999) × (digits_from l.v (placed l.b-index (drop l.b-index l.w)) ≡ digits_from 0 (placed 0 l.w))
