-- Below 65,536 one is added, in the code and in the model; from there on in neither.
use mathlib.Core.Path.{refl}
use borrow.Author.Tests.{lt-ltb, le-ltb}
use Rattle.songcode.specs.Lists.{provided◌then◌else◌}
use Rattle.slips.specs.Misfits.{one_more}
use Rattle.slips.proofs.readings.one_more.Goals as goal

pub returns-then-positions-lt-LINE_MOST : goal.returns-then-positions-lt-LINE_MOST
unfolding one_more provided◌then◌else◌
returns-then-positions-lt-LINE_MOST c = rw (lt-ltb c.args.positions 65536 c.if-positions-lt-LINE_MOST.true) refl

pub returns-else-positions-lt-LINE_MOST : goal.returns-else-positions-lt-LINE_MOST
unfolding one_more provided◌then◌else◌
returns-else-positions-lt-LINE_MOST c = rw (le-ltb c.args.positions 65536 c.if-positions-lt-LINE_MOST.false) refl
