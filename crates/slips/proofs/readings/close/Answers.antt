-- The three cases of the model: no position yet, as many as divide N, or a misfit that is found.
use Rattle.slips.proofs.MisfitLaws.{closing_none, closing_fits, closing_misfit}
use Rattle.slips.proofs.readings.close.Goals as goal

pub returns-then-x-eq0 : goal.returns-then-x-eq0
returns-then-x-eq0 c = let a = c.args in closing_none a.time a.x c.if-x-eq0.true

pub returns-then-time-x-eq0 : goal.returns-then-time-x-eq0
returns-then-time-x-eq0 c =
    let a = c.args in closing_fits a.time a.x c.if-x-eq0.false c.if-time-x-eq0.true

pub returns : goal.returns
returns c =
    let a = c.args in closing_misfit a.time a.x c.if-x-eq0.false c.if-time-x-eq0.false
