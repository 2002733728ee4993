-- Both cases.
use borrow.Author.Tests.{eq-eqb, ne_eqb}
use Rattle.songcode.specs.Lists.{provided◌then◌else◌}
use Rattle.laying.specs.Rows.{tempo_of}
use Rattle.laying.proofs.rows.tempo_of.Goals as goal

pub returns-then-own-eq511 : goal.returns-then-own-eq511
unfolding tempo_of provided◌then◌else◌
returns-then-own-eq511 c = simp (eq-eqb _ _ c.if-own-eq511.true)

pub returns-else-own-eq511 : goal.returns-else-own-eq511
unfolding tempo_of provided◌then◌else◌
returns-else-own-eq511 c = simp (ne_eqb _ _ c.if-own-eq511.false)
