-- What stands behind the letter of a row tells its longest spelling.
use Rattle.tokens.proofs.RowLaws.{letter_range, letter_row, row_found}
use native.Mathlib.Omega.{arith}
use mathlib.Core.Path.{◌∙◌}
use Prim.Native.Nat.{◌-◌}
use Rattle.tokens.proofs.bases.base_of.Goals as goal

pub returns : goal.returns
returns c =
    let b = c.args.letter in
    let w = c.args.w.now in
    let l = letter_range b c.requires.0 in
    let f = c.first_of-first.ensures.0 in
    let g = c.sign_of-sign.ensures.0 in
    let m = c.major_len.ensures.0 in
    c.with_minor.ensures ∙ rw (f, m, g, c.byte_at.ensures)
    (row_found (b - 65) w (letter_row b c.requires.0) (omega (arith, c.requires.1, l)))
