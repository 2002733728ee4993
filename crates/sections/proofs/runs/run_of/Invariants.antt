-- Every line passed opens as the test wants and is not parted off.
use Rattle.sections.specs.Runs.{passing}
use Rattle.sections.proofs.RunLaws.{Walked}
use lib.ListN.{length}
use Prim.Native.Nat.{◌+◌, ◌-◌, ◌≤◌}
use Rattle.sections.proofs.runs.run_of.Given as goal

abbrev pub invariant-loop-next : goal.invariant-loop-next
invariant-loop-next l =
    (l.at ≤ l.next) × (l.next ≤ length l.s) × (l.at + l.lines ≤ l.next) × Walked l.s (passing l.test) l.number l.at l.lines l.next

abbrev pub decreases-loop-next : goal.decreases-loop-next
decreases-loop-next l = length l.s - l.next
