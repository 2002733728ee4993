-- The kind of a closing bracket is known at once; for another the lower bound fails, or it holds and only the upper one is left.
use Rattle.tokens.specs.Signs.{is_stop}
use borrow.Author.Tests.{eq-eqb, ne_eqb, le-leb, lt-leb}
use Rattle.tokens.proofs.signs.is_stop.Goals as goal

pub returns-then-k-eq-CLOSES : goal.returns-then-k-eq-CLOSES
unfolding is_stop
returns-then-k-eq-CLOSES c = simp (eq-eqb _ _ c.if-k-eq-CLOSES.true)

pub returns-then-k-ge-CHORDS : goal.returns-then-k-ge-CHORDS
unfolding is_stop
returns-then-k-ge-CHORDS c = simp (ne_eqb _ _ c.if-k-eq-CLOSES.false, le-leb _ _ c.if-k-ge-CHORDS.true)

pub returns-else-k-ge-CHORDS : goal.returns-else-k-ge-CHORDS
unfolding is_stop
returns-else-k-ge-CHORDS c = simp (ne_eqb _ _ c.if-k-eq-CLOSES.false, lt-leb _ _ c.if-k-ge-CHORDS.false)
