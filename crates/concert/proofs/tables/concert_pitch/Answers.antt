-- `concert_pitch` meets its contract: the three tests in the order of the refusals settle which is given.
use native.Mathlib.Omega.{arith}
use mir.Facts.{to_z-of_z}
use Rattle.songcode.specs.Lists.{provided◌then◌else◌}
use Rattle.concert.specs.Moves.{refusal_of}
use Rattle.concert.specs.Promises.{second_table}
use Rattle.concert.proofs.tables.concert_pitch.Goals as goal

pub returns-then-not-is_allowed : goal.returns-then-not-is_allowed
unfolding refusal_of second_table provided◌then◌else◌
returns-then-not-is_allowed c = let shift = to_z-of_z c.ranges.shift in grind (arith, shift)

pub returns-then-has_odd : goal.returns-then-has_odd
unfolding refusal_of second_table provided◌then◌else◌
returns-then-has_odd c = let shift = to_z-of_z c.ranges.shift in grind (arith, shift)

pub returns-then-second-beats : goal.returns-then-second-beats
unfolding refusal_of second_table provided◌then◌else◌
returns-then-second-beats c = let shift = to_z-of_z c.ranges.shift in grind (arith, shift)

pub returns : goal.returns
unfolding refusal_of second_table provided◌then◌else◌
returns c = let shift = to_z-of_z c.ranges.shift in grind (arith, shift)
