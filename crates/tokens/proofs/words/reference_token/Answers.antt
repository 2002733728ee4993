-- What is no count makes the wrong token; a count is at most 9,999, so the kind of a reference and it together still fit a word.
use Rattle.tokens.proofs.WordLaws.{number_there, number_high, reference_is, reference_wrong}
use Rattle.songcode.specs.Bytes.{placed}
use native.Mathlib.Omega.{arith}
use mathlib.Core.Path.{sym, ◌∙◌}
use Rattle.tokens.proofs.words.reference_token.Goals as goal

pub returns-in_default : goal.returns-in_default
returns-in_default c =
    reference_wrong c.args.w.now (sym c.in_default.is ∙ c.number_in.ensures)

pub overflow_add-result : goal.overflow_add-result
overflow_add-result c =
    let w = c.args.w.now in
    let h = number_there 1 9999 (placed 0 w) c.in-Some.n (sym c.in-Some.is ∙ c.number_in.ensures) in
    omega (arith, number_high 1 9999 (placed 0 w) c.in-Some.n h)

pub overflow_cast-result : goal.overflow_cast-result
overflow_cast-result c =
    let w = c.args.w.now in
    let h = number_there 1 9999 (placed 0 w) c.in-Some.n (sym c.in-Some.is ∙ c.number_in.ensures) in
    omega (arith, number_high 1 9999 (placed 0 w) c.in-Some.n h)

pub returns : goal.returns
returns c =
    reference_is c.args.w.now c.in-Some.n
    (sym c.in-Some.is ∙ c.number_in.ensures)
