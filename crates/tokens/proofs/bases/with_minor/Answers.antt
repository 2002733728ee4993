-- Whether an `m` stands there is told; the minor chord stands at most three behind the major one, so its number has room.
use Rattle.tokens.proofs.RowLaws.{letter_row, minor_most}
use Rattle.tokens.specs.Bases.{with_minor}
use Rattle.songcode.specs.Lists.{provided◌then◌else◌}
use borrow.Author.Tests.{not-true, not-false}
use native.Mathlib.Omega.{arith}
use mathlib.Core.Path.{sym, ◌∙◌}
use Prim.Native.Nat.{◌-◌}
use Rattle.tokens.proofs.bases.with_minor.Goals as goal

pub returns-then-not-has_minor : goal.returns-then-not-has_minor
unfolding with_minor provided◌then◌else◌
returns-then-not-has_minor c = simp (sym c.has_minor.ensures ∙ not-true _ c.if-not-has_minor.true-raw)

pub overflow_add-result : goal.overflow_add-result
overflow_add-result c =
    let m = minor_most (c.args.letter - 65) (letter_row c.args.letter c.requires.0) in
    omega (arith, c.at_letter.ensures, m)

pub returns : goal.returns
unfolding with_minor provided◌then◌else◌
returns c = simp (c.at_letter.ensures, sym c.has_minor.ensures ∙ not-false _ c.if-not-has_minor.false-raw)
