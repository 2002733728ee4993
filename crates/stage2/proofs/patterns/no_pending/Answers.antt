-- Three times no complaint, and the check before the first token.
use mathlib.Core.Path.{refl}
use Rattle.stage2.proofs.patterns.no_pending.Goals as goal

pub returns : goal.returns
returns c = rw c.start-check.ensures refl
