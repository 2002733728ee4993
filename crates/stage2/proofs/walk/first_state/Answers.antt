-- A gap with no mark, no definition and nothing pending is the model's first state.
use mathlib.Core.Path.{refl}
use Rattle.stage2.proofs.walk.first_state.Goals as goal

pub returns : goal.returns
returns c = rw (c.block_state.ensures, c.no_pending.ensures) refl
