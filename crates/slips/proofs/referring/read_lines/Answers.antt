-- Line by line: the tokens read so far and those that are left are those of the run.
use Prim.Native.Nat.{ℕ, ◌+◌, ◌-◌}
use mathlib.Core.List.{List}
use native.Mathlib.Omega.{arith}
use Rattle.slips.specs.declared.referring.Referring.{Referring}
use Rattle.slips.specs.Marks.{Mark}
use Rattle.slips.specs.Referring.{PutRead}
use Rattle.slips.proofs.MarkLaws.{within_none, within_past, within_next, within_first}
use Rattle.slips.proofs.PutReadLaws.{read_none, read_both}
use Rattle.slips.proofs.referring.read_lines.Goals as goal

abbrev Read : List ℕ → Referring → Referring → List Mark → Type 0
Read s x y ms = PutRead s ms x y

pub loop-i-init : goal.loop-i-init
loop-i-init c =
    let p = c.requires in
    let b = p.0 in
    (omega arith, p.1, within_first (Read c.args.s.now c.args.x c.args.x) _ _ _ _ (read_none _ _ p.3))

pub returns-then-s-at : goal.returns-then-s-at
returns-then-s-at c =
    let w = within_past _ _ _ _ _ _ c.loop-i.invariant.2 c.if-s-at.true in
    record { marks = w.0; marked = w.1; read = w.2 }

pub read_line-reading-requires : goal.read_line-reading-requires
read_line-reading-requires c =
    let f = c.line_at-l.ensures in
    let o = f.onward in
    let v = f.over in
    let n = f.next in
    (omega arith, omega arith, c.requires.2, c.loop-i.invariant.2.1.known)

pub loop-i-preserved : goal.loop-i-preserved
loop-i-preserved c =
    let f = c.line_at-l.ensures in
    let r = c.read_line-reading.ensures in
    let h = c.if-s-at.false in
    let t = c.loop-i-test.true in
    let o = f.onward in
    let v = f.over in
    let b = c.loop-i.invariant.0 in
    let G = Read c.args.s.now c.args.x c.read_line-reading.result in (
      omega arith,
      omega arith,
      within_next _ _ _ _ _ _ c.loop-i.invariant.2 G f h (c.args.run.number + (c.loop-i.i + 1)) (c.args.run.lines - (c.loop-i.i + 1))
          (omega arith) (omega arith) r.marks r.marked
          (λ done d. read_both d r.read),
    )

pub returns : goal.returns
returns c =
    let t = c.loop-i-test.false in
    let w = within_none _ _ _ _ _ _ c.loop-i.invariant.2 (omega arith) in
    record { marks = w.0; marked = w.1; read = w.2 }
