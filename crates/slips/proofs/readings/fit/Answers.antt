-- What is found stays; else a position goes on with the measure and any other sign closes it, as in the model.
use mathlib.Core.Path.{sym, ◌∙◌}
use Rattle.tokens.specs.Signs.{is_position}
use Rattle.slips.specs.Misfits.{is_position_sign}
use Rattle.slips.proofs.MisfitLaws.{fit_found, fit_position, fit_other}
use Rattle.slips.proofs.readings.fit.Goals as goal

pub returns-then-x : goal.returns-then-x
returns-then-x c =
    let a = c.args in fit_found a.time a.x a.from a.to (is_position_sign a.sign) c.if-x.true

pub returns-then-is_position : goal.returns-then-is_position
unfolding is_position
returns-then-is_position c =
    let a = c.args in
    c.begun.ensures
    ∙ fit_position a.time a.x a.from a.to (is_position_sign a.sign) c.if-x.false
    (sym c.is_position.ensures ∙ c.if-is_position.true)

pub returns : goal.returns
unfolding is_position
returns c =
    let a = c.args in
    c.close.ensures
    ∙ fit_other a.time a.x a.from a.to (is_position_sign a.sign) c.if-x.false
    (sym c.is_position.ensures ∙ c.if-is_position.false)
