-- The measure, if there is one, is among those between start and end; each probe leaves fewer of them.
use Prim.Native.Nat.{◌+◌, ◌-◌, ◌≤◌}
use lib.ListN.{length}
use Rattle.seek.proofs.Laws.{Left}
use Rattle.seek.proofs.find_measure.Given as goal

abbrev pub invariant-loop-start : goal.invariant-loop-start
invariant-loop-start l =
    (length l.measures ≤ 65535) × (l.start ≤ l.end) × (l.end ≤ length l.measures) × (l.probes + (l.end - l.start) ≤ length l.measures)
    × Left l.beat l.measures l.start l.end l.probes

abbrev pub decreases-loop-start : goal.decreases-loop-start
decreases-loop-start l = l.end - l.start
