-- A header found before stays; where there is none, the test tells the section's own or 0.
use borrow.Author.Tests.{eq-eqb, ne_eqb}
use Rattle.songcode.specs.Lists.{provided◌then◌else◌}
use Rattle.judging.specs.Singing.{off_with}
use Rattle.judging.proofs.singing.off_with.Goals as goal

pub returns-then-off-ne0 : goal.returns-then-off-ne0
unfolding off_with provided◌then◌else◌
returns-then-off-ne0 c = rw (ne_eqb _ 0 c.if-off-ne0.true)

pub returns-then-differs : goal.returns-then-differs
unfolding off_with provided◌then◌else◌
returns-then-differs c = rw (eq-eqb _ 0 c.if-off-ne0.false, c.if-differs.true)

pub returns-else-differs : goal.returns-else-differs
unfolding off_with provided◌then◌else◌
returns-else-differs c = rw (eq-eqb _ 0 c.if-off-ne0.false, c.if-differs.false)
