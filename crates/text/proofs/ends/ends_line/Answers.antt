-- The three tests are those of the definition.
use borrow.Author.Tests.{ne_eqb}
use Rattle.text.specs.Ends.{ends_line}
use Rattle.text.proofs.ends.ends_line.Goals as goal

pub returns-then-b-eq10 : goal.returns-then-b-eq10
unfolding ends_line
returns-then-b-eq10 c = rw c.if-b-eq10.true

pub returns-then-b-eq13 : goal.returns-then-b-eq13
unfolding ends_line
returns-then-b-eq13 c = rw (ne_eqb _ _ c.if-b-eq10.false, c.if-b-eq13.true)

pub returns-else-b-eq13 : goal.returns-else-b-eq13
unfolding ends_line
returns-else-b-eq13 c = rw (ne_eqb _ _ c.if-b-eq10.false, ne_eqb _ _ c.if-b-eq13.false)
