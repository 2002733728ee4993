-- Lines are numbered from 1, so one can be taken off; the run is then the one that is promised, field by field.
use mathlib.Core.Path.{refl}
use Rattle.laying.specs.Metadata.{lines_before}
use Rattle.laying.proofs.metadata.lines_before.Goals as goal

pub returns : goal.returns
unfolding lines_before
returns c = refl
