-- The first position says where the measure begins, a later one keeps that; both count one more and end here.
use Rattle.slips.proofs.MisfitLaws.{begun_first, begun_more}
use Rattle.slips.proofs.readings.begun.Goals as goal

pub returns-then-x-eq0 : goal.returns-then-x-eq0
returns-then-x-eq0 c =
    let a = c.args in begun_first 0 a.x a.from a.to c.one_more.ensures c.if-x-eq0.true

pub returns-else-x-eq0 : goal.returns-else-x-eq0
returns-else-x-eq0 c =
    let a = c.args in begun_more 0 a.x a.from a.to c.one_more.ensures c.if-x-eq0.false
