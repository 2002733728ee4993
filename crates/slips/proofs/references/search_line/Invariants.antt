-- Safe, and the loop ends: a token ends within the line and further on, or the search is over.
use Prim.Native.Nat.{◌-◌, ◌≤◌}
use Rattle.slips.proofs.references.search_line.Given as goal

abbrev pub invariant-loop-t : goal.invariant-loop-t
invariant-loop-t l = (l.at ≤ l.to)

abbrev pub decreases-loop-t : goal.decreases-loop-t
decreases-loop-t l = l.to - l.at
