-- What is known of the sections passed, and what is left of stage 3, is all of it; behind the last the outcome is the verdict, and all stand in the row.
use Rattle.judging.proofs.ReferenceLaws.{ReferencesLeft}
use Rattle.judging.proofs.RowIsLaws.{RowIs}
use Rattle.judging.proofs.WalkLaws.{Walked}
use Rattle.sections.specs.Onward.{Onward}
use lib.ListN.{length}
use mathlib.Core.Path.{◌≡◌}
use Prim.Native.Nat.{◌-◌}
use Rattle.judging.proofs.walking.walk.Given as goal

abbrev pub invariant-loop-place : goal.invariant-loop-place
invariant-loop-place l =
    Onward l.s l.place × RowIs l.s l.words l.mark l.at l.place × (length l.words ≡ length l.initial.words) × ReferencesLeft l.s l.place
    × Walked l.s l.place l.metered l.sung

abbrev pub decreases-loop-place : goal.decreases-loop-place
decreases-loop-place l = length l.s - l.place.at
