-- "Numbers are decimals without leading zero." Counts and their ranges.
use Rattle.std.specs.Prelude.{ℕ, ◌+◌, ◌*◌, ◌-◌, List, [], ◌∷◌, Bool, true, false, ◌&&◌, not, eqb, leb}
use Prim.Native.Char.{code}
use Rattle.std.proofs.Math.Option.{Option, none, some}
use Rattle.songcode.specs.Lists.{provided◌then◌else◌}
use Rattle.songcode.specs.Bytes.{Byte}

unfoldable pub is_digit : Byte → Bool
is_digit b = leb (code "0") b.value && leb b.value (code "9")

unfoldable pub digits : List Byte → Bool
unfolding is_digit
digits [] = true
digits (b ∷ bs) = is_digit b && digits bs

-- One digit or more, the first a zero only where it is alone.
unfoldable pub is_decimal : List Byte → Bool
unfolding is_digit digits
is_decimal [] = false
is_decimal (b ∷ []) = is_digit b
is_decimal (b ∷ c ∷ bs) = not (eqb b.value (code "0")) && digits (b ∷ c ∷ bs)

-- The number that the digits say, behind the number before them.
unfoldable pub value_from : ℕ → List Byte → ℕ
value_from v [] = v
value_from v (b ∷ bs) = value_from (v * 10 + (b.value - code "0")) bs

-- The number, if it is one and in its range.
unfoldable pub number_in : ℕ → ℕ → List Byte → Option ℕ
unfolding provided◌then◌else◌ is_decimal value_from
number_in low high bs =
    provided is_decimal bs && leb low (value_from 0 bs) && leb (value_from 0 bs) high then some (value_from 0 bs) else none

-- "Every count, and n in `$n`, is 1 to 9,999; loop and repeat counts start at 2."
unfoldable pub count_in : List Byte → Option ℕ
unfolding number_in
count_in bs = number_in 1 9999 bs

unfoldable pub repeat_in : List Byte → Option ℕ
unfolding number_in
repeat_in bs = number_in 2 9999 bs
