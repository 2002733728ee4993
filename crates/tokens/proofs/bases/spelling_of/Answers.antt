-- No spelling is listed past 33; each number up to it has its row, one of six places in it, and its spelling there.
use Rattle.songcode.specs.Lists.{provided◌then◌else◌}
use Rattle.songcode.specs.Bytes.{ascii}
use Rattle.songcode.specs.Answer.Chords.{rows, spellings, bases, spelling_of}
use Rattle.tokens.specs.Bases.{unpadded, first_of}
use Rattle.tokens.proofs.NumberLaws.{number_stands}
use Prim.Native.Nat.{◌≤◌}
use lib.ListN.{get_or-eq_default}
use mathlib.Core.List.{[]}
use mathlib.Core.Path.{sym}
use native.Mathlib.Omega.{arith}
use Rattle.tokens.proofs.bases.spelling_of.Goals as goal

pub returns-then-number-gt33 : goal.returns-then-number-gt33
unfolding unpadded provided◌then◌else◌ spelling_of bases
returns-then-number-gt33 c = let past : 34 ≤ c.args.number = omega arith in sym (get_or-eq_default bases [] past)

pub offset_bounds-row : goal.offset_bounds-row
offset_bounds-row c =
    let e = c.row_of-row.ensures in
    let s = (number_stands c.args.number (omega arith)).row in omega arith

pub bounds-row : goal.bounds-row
bounds-row c =
    let e = c.row_of-row.ensures in
    let s = (number_stands c.args.number (omega arith)).row in omega arith

pub overflow_sub-result : goal.overflow_sub-result
unfolding first_of
overflow_sub-result c = rw c.row_of-row.ensures (number_stands c.args.number (omega arith)).first

pub offset_bounds-row-2 : goal.offset_bounds-row-2
offset_bounds-row-2 c =
    let e = c.row_of-row.ensures in
    let s = (number_stands c.args.number (omega arith)).row in omega arith

pub bounds-row-else-number-gt33 : goal.bounds-row-else-number-gt33
bounds-row-else-number-gt33 c =
    let e = c.row_of-row.ensures in
    let s = (number_stands c.args.number (omega arith)).row in omega arith

pub bounds-number : goal.bounds-number
unfolding first_of
bounds-number c =
    rw c.row_of-row.ensures (let s = (number_stands c.args.number (omega arith)).place in omega arith)

pub returns : goal.returns
unfolding first_of rows spellings ascii
returns c =
    rw c.row_of-row.ensures (number_stands c.args.number (omega arith)).spelled
