-- A token begins behind the blanks in front and ends within the part; where none is left, nothing is there.
use native.Mathlib.Omega.{arith}
use borrow.Author.Rules.{rules}
use Rattle.slips.proofs.TokenLaws.{token_ends, takes_one, takes_none}
use Rattle.slips.proofs.signs.token_from.Goals as goal

pub returns-in_err-lexed-clause-takes : goal.returns-in_err-lexed-clause-takes
returns-in_err-lexed-clause-takes c = rw c.from_residual.ensures (takes_none c.args.s.now c.args.at c.args.to c.in_err-lexed.ensures)

pub slice_bounds-front_blanks-count : goal.slice_bounds-front_blanks-count
slice_bounds-front_blanks-count c =
    let e = token_ends c.args.s.now c.args.at c.args.to c.in_ok-lexed.lexed c.in_ok-lexed.ensures in
    let a = e.0 in
    let b = e.1 in
    search rules

pub slice_bounds-front_blanks-start : goal.slice_bounds-front_blanks-start
slice_bounds-front_blanks-start c =
    let e = token_ends c.args.s.now c.args.at c.args.to c.in_ok-lexed.lexed c.in_ok-lexed.ensures in
    let a = e.0 in
    let b = e.1 in
    search rules

pub slice_bounds-front_blanks-end : goal.slice_bounds-front_blanks-end
slice_bounds-front_blanks-end c =
    let e = token_ends c.args.s.now c.args.at c.args.to c.in_ok-lexed.lexed c.in_ok-lexed.ensures in
    let a = e.0 in
    let b = e.1 in
    search rules

pub returns : goal.returns
returns c =
    let h = c.requires in
    let l = c.in_ok-lexed in
    let e = token_ends c.args.s.now c.args.at c.args.to l.lexed l.ensures in
    let t = takes_one c.args.s.now c.args.at c.args.to h.0 h.1 h.2 l.lexed l.ensures c.front_blanks.result c.front_blanks.ensures.0 in
    record { inside = (omega arith, t.solid, e.1); takes = t }
