-- The test of the later line's count is that of the definition; both cases compute.
use borrow.Author.Tests.{eq-eqb, ne_eqb}
use Rattle.songcode.specs.Lists.{provided◌then◌else◌}
use Rattle.judging.specs.Counts.{later_of}
use Rattle.judging.proofs.counts.later_of.Goals as goal

pub returns-then-l-eq0 : goal.returns-then-l-eq0
unfolding later_of provided◌then◌else◌
returns-then-l-eq0 c = simp (eq-eqb _ 0 c.if-l-eq0.true)

pub returns-else-l-eq0 : goal.returns-else-l-eq0
unfolding later_of provided◌then◌else◌
returns-else-l-eq0 c = simp (ne_eqb _ 0 c.if-l-eq0.false)
