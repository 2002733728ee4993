-- The count is 0 or not: the two tallies of the definition; the bounds demanded leave room for one more line and its count.
use borrow.Author.Tests.{eq-eqb, ne_eqb}
use Rattle.songcode.specs.Lists.{provided◌then◌else◌}
use Rattle.judging.specs.Lyrics.{with_line}
use Rattle.judging.proofs.lyrics.with_line.Goals as goal

pub returns-then-count-ne0 : goal.returns-then-count-ne0
unfolding with_line provided◌then◌else◌
returns-then-count-ne0 c = rw (ne_eqb _ 0 c.if-count-ne0.true)

pub returns : goal.returns
unfolding with_line provided◌then◌else◌
returns c = rw (eq-eqb _ 0 c.if-count-ne0.false, c.first_line.ensures)
