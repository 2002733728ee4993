-- By its length: no byte is no decimal, one byte is what it says as digits, and so are more unless a zero stands in front.
use Rattle.tokens.proofs.DecimalLaws.{decimal_empty, decimal_single, decimal_zero, decimal_more}
use mathlib.Core.Path.{◌∙◌}
use Rattle.tokens.proofs.numbers.decimal.Goals as goal

pub returns-then-w-eq0 : goal.returns-then-w-eq0
returns-then-w-eq0 c =
    decimal_empty c.args.w.now c.if-w-eq0.true

pub returns-then-w-eq1 : goal.returns-then-w-eq1
returns-then-w-eq1 c =
    c.digits.ensures ∙ decimal_single c.args.w.now c.if-w-eq1.true

pub returns-then-w-eq48 : goal.returns-then-w-eq48
returns-then-w-eq48 c =
    decimal_zero c.args.w.now c.if-w-eq0.false c.if-w-eq1.false c.if-w-eq48.true

pub returns : goal.returns
returns c =
    c.digits-2.ensures ∙ decimal_more c.args.w.now
    c.if-w-eq0.false c.if-w-eq1.false c.if-w-eq48.false
