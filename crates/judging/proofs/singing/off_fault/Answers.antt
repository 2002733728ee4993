-- Only where both tests hold is a line refused.
use borrow.Author.Tests.{eq-eqb, ne_eqb}
use Rattle.songcode.specs.Lists.{provided◌then◌else◌}
use Rattle.judging.specs.Singing.{off_fault}
use Rattle.judging.proofs.singing.off_fault.Goals as goal
use Rattle.judging.proofs.singing.off_fault.Goals.{else-counted-via-then-counted+else-off-ne0, else-counted-via-else-counted}

pub returns-then-off-ne0 : goal.returns-then-off-ne0
unfolding off_fault provided◌then◌else◌
returns-then-off-ne0 c = rw (c.if-counted.true, ne_eqb _ 0 c.if-off-ne0.true)

pub returns : goal.returns
unfolding off_fault provided◌then◌else◌
returns c =
    elim c.else-counted.branch [
      | else-counted-via-then-counted+else-off-ne0 w ↦ rw (w.if-counted.true, eq-eqb _ 0 w.if-off-ne0.false)
      | else-counted-via-else-counted w ↦ rw w.if-counted.false
    ]
