-- Both cases.
use borrow.Author.Tests.{eq-eqb, ne_eqb}
use Rattle.songcode.specs.Lists.{provided◌then◌else◌}
use Rattle.laying.specs.Rows.{place_word}
use Rattle.laying.proofs.rows.place_word.Goals as goal

pub returns-then-start-stop : goal.returns-then-start-stop
unfolding place_word provided◌then◌else◌
returns-then-start-stop c = rw (eq-eqb _ _ c.if-start-stop.true)

pub returns : goal.returns
unfolding place_word provided◌then◌else◌
returns c = rw (ne_eqb _ _ c.if-start-stop.false) c.halves.ensures
