-- Test by test: two of them ask for the `--`, the other two never do.
use Rattle.sections.specs.Runs.{parted}
use Rattle.sections.specs.declared.runs.Test.TheVariants.{Full, Body, Early, Pattern}
use mathlib.Core.Path.{refl}
use mathlib.Core.Logic.{inl, inr}
use Rattle.sections.proofs.TestLaws.{parted_by}
use Rattle.sections.proofs.runs.is_parted.Goals as goal

pub returns-in-Body : goal.returns-in-Body
unfolding parted
returns-in-Body c = elim c.in-Body.is [ inl e ↦ parted_by Body _ e c.is_dashes.ensures | inr e ↦ parted_by Pattern _ e c.is_dashes.ensures ]

pub returns-in-Full : goal.returns-in-Full
unfolding parted
returns-in-Full c = elim c.in-Full.is [ inl e ↦ parted_by Full _ e refl | inr e ↦ parted_by Early _ e refl ]
