-- At a bad place the first half of the test passes; at any other the `$n` alone decides.
use mathlib.Core.Path.{◌∙◌}
use Rattle.grammar.proofs.TestLaws.{or_passes, or_fails}
use Rattle.slips.specs.RulesRead.{is_stuck}
use Rattle.slips.proofs.patterns.is_stuck.Goals as goal

pub returns-then-is_bad : goal.returns-then-is_bad
unfolding is_stuck
returns-then-is_bad c = c.if-is_bad.true ∙ or_passes c.is_bad.ensures _ c.if-is_bad.true

pub returns-else-is_bad : goal.returns-else-is_bad
unfolding is_stuck
returns-else-is_bad c = c.is_misnamed.ensures ∙ or_fails c.is_bad.ensures _ c.if-is_bad.false
