-- The three cases.
use borrow.Author.Tests.{eq-eqb, ne_eqb}
use Rattle.songcode.specs.Lists.{provided◌then◌else◌}
use Rattle.laying.specs.Rows.{meter_of}
use Rattle.laying.proofs.rows.meter_of.Goals as goal

pub returns-then-own-ne0 : goal.returns-then-own-ne0
unfolding meter_of provided◌then◌else◌
returns-then-own-ne0 c = rw (ne_eqb _ 0 c.if-own-ne0.true)

pub returns-then-song-ne0 : goal.returns-then-song-ne0
unfolding meter_of provided◌then◌else◌
returns-then-song-ne0 c = rw (eq-eqb _ 0 c.if-own-ne0.false, ne_eqb _ 0 c.if-song-ne0.true)

pub returns-else-song-ne0 : goal.returns-else-song-ne0
unfolding meter_of provided◌then◌else◌
returns-else-song-ne0 c = rw (eq-eqb _ 0 c.if-own-ne0.false, eq-eqb _ 0 c.if-song-ne0.false)
