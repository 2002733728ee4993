-- The loop over the lines: the least of what was complained of and of what is still to come stays the same.
use Rattle.stage2.proofs.WalkReturns.{to_come, Marks}
use Rattle.stage2.proofs.StateLaws.{Stands}
use Rattle.stage2.specs.Walk.{Walk, at_first}
use Rattle.refusals.specs.Ranks.{none}
use lib.ListN.{length}
use mathlib.Core.Path.{◌≡◌}
use Prim.Native.Nat.{◌+◌, ◌-◌, ◌≤◌, min}
use Rattle.stage2.proofs.walk.stage_two.Given as goal

abbrev pub invariant-loop-at : goal.invariant-loop-at
invariant-loop-at l =
    (l.at ≤ length l.s) × (l.n ≤ l.at + 1) × (l.best ≤ none) × Marks l.s l.initial.words l.words l.at
    × (w : Walk) × Stands w l.c l.ids × (min l.best (to_come l.s w l.n l.at) ≡ to_come l.s at_first 1 0)

abbrev pub decreases-loop-at : goal.decreases-loop-at
decreases-loop-at l = length l.s - l.at
