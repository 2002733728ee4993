-- A case for each letter, and none for any other byte.
use Rattle.tokens.proofs.RowLaws.{letter_range, no_letter}
use mathlib.Core.Path.{refl}
use native.Mathlib.Omega.{arith}
use Rattle.tokens.proofs.bases.at_letter.Goals as goal

pub returns-in_default : goal.returns-in_default
returns-in_default c =
    let l = letter_range c.args.letter c.requires in
    absurd (no_letter c.args.letter l.0 l.1 (omega arith) (omega arith) (omega arith) (omega arith) (omega arith) (omega arith) (omega arith))

pub returns-in-65 : goal.returns-in-65
returns-in-65 c = rw c.in-65.is refl

pub returns-in-66 : goal.returns-in-66
returns-in-66 c = rw c.in-66.is refl

pub returns-in-67 : goal.returns-in-67
returns-in-67 c = rw c.in-67.is refl

pub returns-in-68 : goal.returns-in-68
returns-in-68 c = rw c.in-68.is refl

pub returns-in-69 : goal.returns-in-69
returns-in-69 c = rw c.in-69.is refl

pub returns-in-70 : goal.returns-in-70
returns-in-70 c = rw c.in-70.is refl

pub returns-in-71 : goal.returns-in-71
returns-in-71 c = rw c.in-71.is refl
