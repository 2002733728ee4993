-- A chord's kind makes the `or` of the definition true; for any other only the bound of the last three signs is left.
use Rattle.tokens.specs.Signs.{is_position}
use borrow.Author.Tests.{lt-ltb, le-ltb}
use Rattle.tokens.proofs.signs.is_position.Goals as goal

pub returns-then-k-lt-CHORDS : goal.returns-then-k-lt-CHORDS
unfolding is_position
returns-then-k-lt-CHORDS c = simp (lt-ltb _ _ c.if-k-lt-CHORDS.true)

pub returns-else-k-lt-CHORDS : goal.returns-else-k-lt-CHORDS
unfolding is_position
returns-else-k-lt-CHORDS c = simp (le-ltb _ _ c.if-k-lt-CHORDS.false)
