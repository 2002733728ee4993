-- The line ends seen, and those from here on, are those of the text.
use native.Mathlib.Omega.{arith}
use Rattle.text.proofs.EndLaws.{ends_yes, ends_no, ends_over}
use Rattle.text.proofs.ends.line_ends.Goals as goal
use Rattle.text.proofs.ends.line_ends.Goals.{then-ends_line, else-ends_line}

pub loop-i-preserved : goal.loop-i-preserved
loop-i-preserved c =
    let s = c.args.t.now in
    let h = c.loop-i-test.true in
    let e = c.byte_at.ensures in
    let k = c.ends_line.ensures in
    elim c.if-ends_line.branch [
      | then-ends_line w ↦ let m = ends_yes s c.loop-i.i h e k w.if-ends_line.true in (omega arith, omega arith)
      | else-ends_line w ↦ let m = ends_no s c.loop-i.i h e k w.if-ends_line.false in (omega arith, omega arith)
    ]

pub returns : goal.returns
returns c = (omega (arith, ends_over c.args.t.now c.loop-i.i c.loop-i-test.false), omega arith)
