-- With no loop open the check is spoiled, else one loop fewer is open: the test is the model's, and both arms compute.
use borrow.Author.Tests.{eq-eqb, ne_eqb}
use Rattle.songcode.specs.Lists.{provided◌then◌else◌}
use Rattle.grammar.specs.Checks.{closed}
use Rattle.grammar.proofs.checks.close_loop.Goals as goal

pub returns-then-c-eq0 : goal.returns-then-c-eq0
unfolding closed provided◌then◌else◌
returns-then-c-eq0 c = simp (eq-eqb _ _ c.if-c-eq0.true) c.spoil.ensures

pub returns : goal.returns
unfolding closed provided◌then◌else◌
returns c = simp (ne_eqb _ _ c.if-c-eq0.false)
