-- Where no lines are left, no modifiers are said; else what is gathered from them.
use Rattle.sections.proofs.NoLinesLaws.{no_modifiers}
use Rattle.sections.proofs.values.modifiers_of.Goals as goal

pub returns-then-run-eq0 : goal.returns-then-run-eq0
returns-then-run-eq0 c = no_modifiers c.args.s.now c.args.run c.if-run-eq0.true
