-- What is no decimal up to 9,999 is none in a range inside it; one that is has only the two bounds to pass.
use Rattle.tokens.proofs.DecimalLaws.{number_not, number_is}
use Rattle.songcode.specs.Bytes.{placed}
use Rattle.songcode.specs.Lists.{provided◌then◌else◌}
use borrow.Author.Tests.{lt-leb, le-leb}
use native.Mathlib.Omega.{arith}
use mathlib.Core.Path.{sym, ◌∙◌}
use mathlib.Core.Logic.{inl, inr}
use Rattle.tokens.proofs.numbers.number_in.Goals as goal

pub returns-in_err-n : goal.returns-in_err-n
returns-in_err-n c =
    let a = c.args in
    c.from_residual.ensures ∙ number_not a.low a.high (placed 0 a.w.now) (omega arith) (sym c.in_err-n.was ∙ c.decimal.ensures)

pub returns-then-n-high : goal.returns-then-n-high
unfolding provided◌then◌else◌
returns-then-n-high c =
    let a = c.args in
    let h = sym c.in_ok-n.was ∙ c.decimal.ensures in
    sym (number_is a.low a.high (placed 0 a.w.now) c.in_ok-n.n h ∙ simp (le-leb _ _ c.if-low-n.true, le-leb _ _ c.if-n-high.true))

pub returns-else-low-n : goal.returns-else-low-n
unfolding provided◌then◌else◌
returns-else-low-n c =
    let a = c.args in
    let h = sym c.in_ok-n.was ∙ c.decimal.ensures in
    sym (number_is a.low a.high (placed 0 a.w.now) c.in_ok-n.n h ∙ elim c.else-low-n.either [
      | inl w ↦ simp (le-leb _ _ w.0, lt-leb _ _ w.1)
      | inr w ↦ simp (lt-leb _ _ w)
    ])
