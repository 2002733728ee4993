-- The second call, for any measure table and any beat number: "Search by halving instead".
use Rattle.std.specs.Prelude.{ℕ, zero, suc, ◌+◌, ◌/◌, List, Bool, leb, ltb, length, get_or}
use Rattle.std.proofs.Math.Option.{Option, none, some}
use Rattle.songcode.specs.Lists.{provided◌then◌else◌}
use Rattle.songcode.specs.Description.Joined.{first_beat, end_beat}

-- What a search gives: "the probes with the record", or no place where no record was found.
pub record Jump : Type 0 where
  pub place : Option ℕ
  pub probes : ℕ

unfoldable pub nowhere : Jump
nowhere = record { place = none; probes = 0 }

-- "Each record read is one probe."
unfoldable pub probed : Jump → Jump
probed s = record { place = s.place; probes = suc s.probes }

-- The beat "is before" a record, or "past it"; a record that has it neither before nor past holds it.
unfoldable pub is_before : ℕ → ℕ → Bool
unfolding first_beat
is_before beat word = ltb beat (first_beat word)

unfoldable pub is_past : ℕ → ℕ → Bool
unfolding end_beat
is_past beat word = leb (end_beat word) beat

-- "the record at half the sum of both ends, rounded down"
unfoldable pub half : ℕ → ℕ → ℕ
half start end = (start + end) / 2

-- "if the beat is before it, that place becomes the range's end; if past it, the place after becomes its start; stop if it holds the beat
-- or the range is empty". The first number only counts down: every turn takes a record or more out of the range, so the range's length is enough.
unfoldable pub halving : ℕ → ℕ → List ℕ → ℕ → ℕ → Jump
unfolding nowhere probed is_before is_past half provided◌then◌else◌
halving zero beat table start end = nowhere
halving (suc turns) beat table start end =
    provided leb end start
    then nowhere
    else (probed
    (provided is_before beat (get_or table (half start end) 0)
    then halving turns beat table start (half start end)
    else (provided is_past beat (get_or table (half start end) 0)
    then halving turns beat table (suc (half start end)) end
    else record { place = some (half start end); probes = 0 })))

-- "with 0 probes, for a table over 65,535 records, checked first"; else "start with the range from 0 to the number of records".
unfoldable pub most_records : ℕ
most_records = 65535

unfoldable pub jump_to : ℕ → List ℕ → Jump
unfolding most_records nowhere halving provided◌then◌else◌
jump_to beat table =
    provided ltb most_records (length table)
    then nowhere
    else halving (length table) beat table 0 (length table)
