-- Where no lines are left, no keys are said; else what is gathered from them.
use Rattle.sections.proofs.NoLinesLaws.{no_keys}
use Rattle.sections.proofs.values.keys_of.Goals as goal

pub returns-then-run-eq0 : goal.returns-then-run-eq0
returns-then-run-eq0 c = no_keys c.args.s.now c.args.run c.if-run-eq0.true
