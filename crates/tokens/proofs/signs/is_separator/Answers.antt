-- A kind below the line end's makes the `and` of the definition false; for any other only the upper bound is left.
use Rattle.tokens.specs.Signs.{is_separator}
use borrow.Author.Tests.{le-leb, lt-leb}
use Rattle.tokens.proofs.signs.is_separator.Goals as goal

pub returns-then-k-ge-LINE_END : goal.returns-then-k-ge-LINE_END
unfolding is_separator
returns-then-k-ge-LINE_END c = simp (le-leb _ _ c.if-k-ge-LINE_END.true)

pub returns-else-k-ge-LINE_END : goal.returns-else-k-ge-LINE_END
unfolding is_separator
returns-else-k-ge-LINE_END c = simp (lt-leb _ _ c.if-k-ge-LINE_END.false)
