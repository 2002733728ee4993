-- All 26 entries are empty, so nothing is remembered.
use mathlib.Core.Path.{refl}
use Rattle.slips.proofs.ReferLaws.{none_remembered}
use Rattle.slips.proofs.referring.begin.Goals as goal

pub returns : goal.returns
returns c = (refl, λ n i. none_remembered 26 n i)
