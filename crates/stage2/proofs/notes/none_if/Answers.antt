-- A test that passes leaves no complaint, one that fails leaves the given one: both arms compute.
use mathlib.Core.Path.{refl}
use Rattle.songcode.specs.Lists.{provided◌then◌else◌}
use Rattle.stage2.specs.Walk.{unless}
use Rattle.stage2.proofs.notes.none_if.Goals as goal

pub returns-then-test : goal.returns-then-test
unfolding unless provided◌then◌else◌
returns-then-test c = rw c.if-test.true refl

pub returns-else-test : goal.returns-else-test
unfolding unless provided◌then◌else◌
returns-else-test c = rw c.if-test.false refl
