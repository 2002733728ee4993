-- A byte below `A` makes the `and` of the definition false; for any other only the upper bound is left.
use Rattle.tokens.specs.Bases.{is_letter}
use borrow.Author.Tests.{le-leb, lt-leb}
use Rattle.tokens.proofs.bases.is_letter.Goals as goal

pub returns-then-b-ge65 : goal.returns-then-b-ge65
unfolding is_letter
returns-then-b-ge65 c = simp (le-leb _ _ c.if-b-ge65.true)

pub returns-else-b-ge65 : goal.returns-else-b-ge65
unfolding is_letter
returns-else-b-ge65 c = simp (lt-leb _ _ c.if-b-ge65.false)
