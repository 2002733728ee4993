-- The limit of open loops is the model's: from it on the check is spoiled, below it one more loop is open.
use borrow.Author.Tests.{le-leb, lt-leb}
use Rattle.songcode.specs.Lists.{provided◌then◌else◌}
use Rattle.songcode.specs.Answer.PatternText.{loops_deep}
use Rattle.grammar.specs.Checks.{opened}
use Rattle.grammar.proofs.checks.open_loop.Goals as goal

pub returns-then-c-ge-LOOPS_DEEP : goal.returns-then-c-ge-LOOPS_DEEP
unfolding opened provided◌then◌else◌ loops_deep
returns-then-c-ge-LOOPS_DEEP c = simp (le-leb _ _ c.if-c-ge-LOOPS_DEEP.true) c.spoil.ensures

pub returns : goal.returns
unfolding opened provided◌then◌else◌ loops_deep
returns c = simp (lt-leb _ _ c.if-c-ge-LOOPS_DEEP.false)
