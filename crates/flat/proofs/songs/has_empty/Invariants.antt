-- Section by section, until one plays nothing.
use Prim.Native.Nat.{◌-◌}
use mathlib.Core.List.{List}
use Rattle.songcode.specs.Song.{Section}
use Rattle.flat.proofs.RowLaws.{Left}
use Rattle.flat.proofs.songs.has_empty.Given as goal

abbrev pub invariant-loop-row : goal.invariant-loop-row
invariant-loop-row l = (xs : List Section) × Left l.s l.words l.row l.end xs

abbrev pub decreases-loop-row : goal.decreases-loop-row
decreases-loop-row l = l.end - l.row
