-- Test by test, each by what is asked of the line; a line that is not full fails the pattern's test without a second question.
use Rattle.sections.specs.Runs.{opens}
use Rattle.sections.specs.declared.runs.Test.TheVariants.{Full, Body, Early, Pattern}
use mathlib.Core.Path.{ap}
use mathlib.Core.Bool.{not}
use mathlib.Core.Logic.{inl, inr}
use Rattle.sections.proofs.TestLaws.{opens_by, pattern_on, pattern_off}
use Rattle.sections.proofs.runs.opens.Goals as goal

pub returns-in-Full : goal.returns-in-Full
unfolding opens
returns-in-Full c = elim c.in-Full.is [ inl e ↦ opens_by Full _ e c.is_full.ensures | inr e ↦ opens_by Body _ e c.is_full.ensures ]

pub returns-in-Early : goal.returns-in-Early
unfolding opens
returns-in-Early c = opens_by Early _ c.in-Early.is (ap not c.is_pattern_at.ensures)

pub returns-then-is_full : goal.returns-then-is_full
returns-then-is_full c = opens_by Pattern _ c.in-Pattern.is
    (pattern_on _ c.is_full-in-Pattern.ensures c.if-is_full.true c.is_pattern_at-then-is_full.ensures)

pub returns-else-is_full : goal.returns-else-is_full
returns-else-is_full c = opens_by Pattern _ c.in-Pattern.is (pattern_off _ c.is_full-in-Pattern.ensures c.if-is_full.false)
