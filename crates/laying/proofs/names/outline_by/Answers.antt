-- For 0 the text itself is read, for any other number the outline is looked up: each is told as it is promised.
use borrow.Author.Tests.{eq-eqb, ne_eqb}
use Rattle.songcode.specs.Lists.{provided◌then◌else◌}
use Rattle.laying.specs.Rows.{outline_by}
use Rattle.laying.proofs.names.outline_by.Goals as goal

pub returns-then-named-eq0 : goal.returns-then-named-eq0
unfolding outline_by provided◌then◌else◌
returns-then-named-eq0 c = rw (eq-eqb _ 0 c.if-named-eq0.true) c.outline_of.ensures.outline

pub returns : goal.returns
unfolding outline_by provided◌then◌else◌
returns c = rw (ne_eqb _ 0 c.if-named-eq0.false) c.outline_for.ensures
