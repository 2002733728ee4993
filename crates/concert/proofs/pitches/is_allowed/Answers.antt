-- Both bounds are compared as the model compares them.
use native.Mathlib.Omega.{arith}
use Rattle.std.proofs.lemmas.Grind.{common_steps}
use Rattle.std.proofs.lemmas.Int.{ints}
use mir.Facts.{to_z-of_z}
use Rattle.concert.specs.Pitches.{is_allowed}
use Rattle.concert.proofs.pitches.is_allowed.Goals as goal

pub returns : goal.returns
unfolding is_allowed
returns c = let e = to_z-of_z c.ranges.shift in grind (arith, ints, common_steps, e)
