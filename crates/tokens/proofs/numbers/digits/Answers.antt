-- Digit by digit: the number so far with the bytes that are left says what all say; a byte that is no digit, or one digit too many, ends it.
use Rattle.tokens.proofs.DecimalLaws.{digits_over, digits_other, digits_past, digits_more}
use native.Mathlib.Omega.{arith}
use mathlib.Core.Logic.{inl, inr}
use mathlib.Core.Path.{sym, ◌∙◌}
use Rattle.tokens.proofs.numbers.digits.Goals as goal

pub returns-then-not-is_ascii_digit : goal.returns-then-not-is_ascii_digit
returns-then-not-is_ascii_digit c =
    let w = c.args.w.now in
    let l = c.loop-b in
    sym (elim c.then-not-is_ascii_digit.either [
      | inl e ↦ digits_other w l.b-index l.v c.loop-b-test.true (sym c.is_ascii_digit.ensures.value ∙ e)
      | inr e ↦ digits_past w l.b-index l.v c.loop-b-test.true e.1
    ]) ∙ l.invariant.1

pub loop-b-preserved : goal.loop-b-preserved
loop-b-preserved c =
    let l = c.loop-b in
    let d = c.if-not-is_ascii_digit.ensures.cases in (
      omega arith,
      rw c.from.ensures (sym (digits_more c.args.w.now l.b-index l.v c.loop-b-test.true d.0 d.1) ∙ l.invariant.1),
    )

pub returns : goal.returns
returns c =
    sym (digits_over c.args.w.now c.loop-b.b-index c.loop-b.v c.loop-b-test.false (omega arith)) ∙ c.loop-b.invariant.1
