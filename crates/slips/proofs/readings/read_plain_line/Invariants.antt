-- Token by token: the tokens read so far and those that are left are those of the line.
use Prim.Native.Nat.{◌-◌, ◌≤◌}
use mathlib.Core.List.{List, ◌++◌}
use Rattle.slips.specs.Marks.{Mark, MarksFrom}
use Rattle.slips.specs.Readings.{Follows}
use Rattle.slips.proofs.readings.read_plain_line.Given as goal

abbrev pub invariant-loop-t : goal.invariant-loop-t
invariant-loop-t l =
    (l.at ≤ l.to)
    × ((done : List Mark) × Follows l.initial.reading done l.reading
    × ((ms : List Mark) → MarksFrom l.s l.at l.to ms → MarksFrom l.s l.from l.to (done ++ ms)))

abbrev pub decreases-loop-t : goal.decreases-loop-t
decreases-loop-t l = l.to - l.at
