-- The first line, the full lines behind it and the blank ones are passed; what is left are the blocks behind this one.
use native.Mathlib.Omega.{arith}
use Rattle.slips.proofs.BlockLaws.{behind_block}
use Rattle.slips.proofs.survey.block_behind.Goals as goal

pub returns : goal.returns
returns c =
    let a = c.args in
    let h = c.requires in
    let f = c.line_at-first.ensures in
    let l = c.run_of-rest.ensures in
    let t = c.next_block.ensures in
    let o = f.onward in
    let v = f.over in
    let u = l.onward in
    let w = t.onward in
    let one = h.0.0 in
    let fits = h.0.1 in
    let within = h.1 in
    (t.number, t.counted, omega arith, t.inside, behind_block a.s.now a.p.number a.p.at within one fits f _ _ l t)
