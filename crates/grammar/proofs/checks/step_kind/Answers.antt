-- A next place that is bad spoils the check, by the model's own test; at any other place the check arrives.
use Rattle.grammar.proofs.ArmLaws.{step_bad, step_on}
use Rattle.grammar.proofs.checks.step_kind.Goals as goal

pub returns-then-is_bad : goal.returns-then-is_bad
returns-then-is_bad c =
    let q = c.args in
    step_bad q.c q.kind c.is_bad.ensures c.next_place-place.ensures c.if-is_bad.true c.spoil.ensures

pub returns : goal.returns
returns c =
    let q = c.args in
    step_on q.c q.kind c.is_bad.ensures c.next_place-place.ensures c.if-is_bad.false c.arrive.ensures
