-- Token by token: up to the place reached no token is cut, and the reading has come so far.
use Prim.Native.Nat.{◌-◌}
use Rattle.slips.proofs.LineReadLaws.{InLine}
use Rattle.slips.proofs.patterns.read_line.Given as goal

abbrev pub invariant-loop-t : goal.invariant-loop-t
invariant-loop-t l = InLine l.s l.whose l.from l.to l.initial.reading l.reading l.at

abbrev pub decreases-loop-t : goal.decreases-loop-t
decreases-loop-t l = l.to - l.at
