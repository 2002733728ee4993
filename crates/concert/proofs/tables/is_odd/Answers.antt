-- A spare bit makes it odd; without one a base from 34 on does that is below 63, the most that six bits hold.
use native.Mathlib.Omega.{arith}
use Rattle.std.proofs.lemmas.Grind.{common_steps}
use Rattle.concert.specs.Moves.{base_in, is_odd}
use Rattle.concert.proofs.tables.is_odd.Goals as goal

pub returns-then-beat_spare-ne0 : goal.returns-then-beat_spare-ne0
unfolding is_odd base_in
returns-then-beat_spare-ne0 c = grind (arith, common_steps)

pub returns-else-beat_spare-ne0 : goal.returns-else-beat_spare-ne0
unfolding is_odd base_in
returns-else-beat_spare-ne0 c = grind (arith, common_steps)
