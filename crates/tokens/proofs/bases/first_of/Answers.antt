-- A letter has one of seven rows, and the first number of none of them is above 28.
use Rattle.tokens.proofs.RowLaws.{letter_row, first_most}
use Rattle.tokens.specs.Bases.{first_of}
use native.Mathlib.Omega.{arith}
use Prim.Native.Nat.{◌-◌}
use Rattle.tokens.proofs.bases.first_of.Goals as goal

pub returns : goal.returns
unfolding first_of
returns c =
    let b = c.args.letter in
    let m = first_most (b - 65) (letter_row b c.requires) in
    (c.at_letter.ensures, omega (arith, c.at_letter.ensures, m))
