-- The cases in the order of the definition: a missing definition first, then one that cannot be put in there, else 0.
use Rattle.outlines.specs.Faults.{fault_told}
use Rattle.songcode.specs.Lists.{provided◌then◌else◌}
use Rattle.outlines.proofs.faults.fault_told.Goals as goal

pub returns-then-f : goal.returns-then-f
unfolding fault_told provided◌then◌else◌
returns-then-f c = rw c.if-f.true

pub returns-then-f-2 : goal.returns-then-f-2
unfolding fault_told provided◌then◌else◌
returns-then-f-2 c = rw (c.if-f.false, c.if-f-2.true)

pub returns-else-f-2 : goal.returns-else-f-2
unfolding fault_told provided◌then◌else◌
returns-else-f-2 c = rw (c.if-f.false, c.if-f-2.false)
