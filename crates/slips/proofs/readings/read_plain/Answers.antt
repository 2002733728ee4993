-- Line by line: the tokens read so far and those that are left are those of the run.
use Prim.Native.Nat.{◌+◌, ◌-◌}
use mathlib.Core.List.{List}
use native.Mathlib.Omega.{arith}
use Rattle.slips.specs.declared.readings.Reading.{Reading}
use Rattle.slips.specs.Marks.{Mark}
use Rattle.slips.specs.Readings.{Follows}
use Rattle.slips.proofs.MarkLaws.{follows_none, follows_both, within_none, within_past, within_next, within_first}
use Rattle.slips.proofs.readings.read_plain.Goals as goal

abbrev Read : Reading → Reading → List Mark → Type 0
Read x y ms = Follows x ms y

pub loop-i-init : goal.loop-i-init
loop-i-init c = (omega arith, omega arith, within_first (Read c.args.x c.args.x) _ _ _ _ (follows_none _))

pub returns-then-s-at : goal.returns-then-s-at
returns-then-s-at c =
    let w = within_past _ _ _ _ _ _ c.loop-i.invariant.2 c.if-s-at.true in
    record { marks = w.0; marked = w.1; follows = w.2 }

pub loop-i-preserved : goal.loop-i-preserved
loop-i-preserved c =
    let f = c.line_at-l.ensures in
    let r = c.read_plain_line-reading.ensures in
    let h = c.if-s-at.false in
    let t = c.loop-i-test.true in
    let o = f.onward in
    let v = f.over in
    let b = c.loop-i.invariant.0 in
    let G = Read c.args.x c.read_plain_line-reading.result in (
      omega arith,
      omega arith,
      within_next _ _ _ _ _ _ c.loop-i.invariant.2 G f h (c.args.run.number + (c.loop-i.i + 1)) (c.args.run.lines - (c.loop-i.i + 1))
          (omega arith) (omega arith) r.marks r.marked
          (λ done d. follows_both d r.follows),
    )

pub returns : goal.returns
returns c =
    let t = c.loop-i-test.false in
    let w = within_none _ _ _ _ _ _ c.loop-i.invariant.2 (omega arith) in
    record { marks = w.0; marked = w.1; follows = w.2 }
