-- Six bounds in rising order: those passed fail in the definition too, and the first that holds, or none, tells the row.
use Rattle.songcode.specs.Lists.{provided◌then◌else◌}
use Rattle.tokens.specs.Bases.{row_of_number}
use borrow.Author.Tests.{lt-ltb, le-ltb}
use Rattle.tokens.proofs.bases.row_of.Goals as goal

pub returns-then-number-lt6 : goal.returns-then-number-lt6
unfolding row_of_number provided◌then◌else◌
returns-then-number-lt6 c = simp (lt-ltb _ _ c.if-number-lt6.true)

pub returns-then-number-lt10 : goal.returns-then-number-lt10
unfolding row_of_number provided◌then◌else◌
returns-then-number-lt10 c = simp (le-ltb _ _ c.if-number-lt6.false, lt-ltb _ _ c.if-number-lt10.true)

pub returns-then-number-lt14 : goal.returns-then-number-lt14
unfolding row_of_number provided◌then◌else◌
returns-then-number-lt14 c = simp (le-ltb _ _ c.if-number-lt6.false, le-ltb _ _ c.if-number-lt10.false, lt-ltb _ _ c.if-number-lt14.true)

pub returns-then-number-lt20 : goal.returns-then-number-lt20
unfolding row_of_number provided◌then◌else◌
returns-then-number-lt20 c = simp (
  le-ltb _ _ c.if-number-lt6.false,
  le-ltb _ _ c.if-number-lt10.false,
  le-ltb _ _ c.if-number-lt14.false,
  lt-ltb _ _ c.if-number-lt20.true,
)

pub returns-then-number-lt24 : goal.returns-then-number-lt24
unfolding row_of_number provided◌then◌else◌
returns-then-number-lt24 c = simp (
  le-ltb _ _ c.if-number-lt6.false,
  le-ltb _ _ c.if-number-lt10.false,
  le-ltb _ _ c.if-number-lt14.false,
  le-ltb _ _ c.if-number-lt20.false,
  lt-ltb _ _ c.if-number-lt24.true,
)

pub returns-then-number-lt28 : goal.returns-then-number-lt28
unfolding row_of_number provided◌then◌else◌
returns-then-number-lt28 c = simp (
  le-ltb _ _ c.if-number-lt6.false,
  le-ltb _ _ c.if-number-lt10.false,
  le-ltb _ _ c.if-number-lt14.false,
  le-ltb _ _ c.if-number-lt20.false,
  le-ltb _ _ c.if-number-lt24.false,
  lt-ltb _ _ c.if-number-lt28.true,
)

pub returns : goal.returns
unfolding row_of_number provided◌then◌else◌
returns c = simp (
  le-ltb _ _ c.if-number-lt6.false,
  le-ltb _ _ c.if-number-lt10.false,
  le-ltb _ _ c.if-number-lt14.false,
  le-ltb _ _ c.if-number-lt20.false,
  le-ltb _ _ c.if-number-lt24.false,
  le-ltb _ _ c.if-number-lt28.false,
)
