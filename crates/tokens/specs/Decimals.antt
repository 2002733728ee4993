-- Decimals as the code answers them.
use Rattle.std.specs.Prelude.{ℕ, List, ◌&&◌, leb}
use Rattle.std.proofs.Math.Option.{Option, none, some}
use Rattle.songcode.specs.Lists.{provided◌then◌else◌}
use Rattle.songcode.specs.Bytes.{Byte}
use Rattle.songcode.specs.Answer.Numbers.{digits, value_from}
use Rattle.std.specs.Prelude as std
use Rattle.std.specs.Prelude.{Some, None}

unfoldable pub number_of : Option ℕ → std.Option ℕ
number_of none = None
number_of (some n) = Some n

-- The number that a text of digits says behind the number before it, up to 9,999.
unfoldable pub digits_from : ℕ → List Byte → std.Option ℕ
unfolding provided◌then◌else◌ digits value_from
digits_from v bs = provided digits bs && leb (value_from v bs) 9999 then Some (value_from v bs) else None
