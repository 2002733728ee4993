-- Safe, and the loop ends: each block begins behind the one before, and only a number below 10,000 is an index.
use Prim.Native.Nat.{◌+◌, ◌-◌, ◌≤◌}
use Rattle.slips.proofs.references.known_before.Given as goal

abbrev pub invariant-loop-p : goal.invariant-loop-p
invariant-loop-p l = (1 ≤ l.p.number) × (l.p.number ≤ l.p.at + 1)

abbrev pub decreases-loop-p : goal.decreases-loop-p
decreases-loop-p l = l.at - l.p.at
