-- The lines passed are blank.
use Rattle.sections.specs.Runs.{blank_line}
use Rattle.sections.proofs.RunLaws.{walked_none, walked_over}
use Rattle.sections.proofs.NextLaws.{next_is, blank_more, blank_stop}
use native.Mathlib.Omega.{arith}
use Prim.Native.Nat.{◌+◌}
use Rattle.sections.proofs.RunLaws.{Stopped}
use Rattle.sections.proofs.blocks.next_block.Goals as goal
use Rattle.sections.proofs.blocks.next_block.Goals.{else-loop-next-test, then-loop-next-test+then-behind-next}

pub loop-next-init : goal.loop-next-init
loop-next-init c = (omega arith, omega arith, omega arith, walked_none _ _ _ _)

pub loop-next-preserved : goal.loop-next-preserved
loop-next-preserved c = let a = c.args in (
  omega arith,
  omega arith,
  omega arith,
  blank_more a.s.now a.number a.at c.loop-next.lines c.loop-next.next c.past_blank-behind.ensures.0
      c.loop-next-test.true c.loop-next.invariant.3 c.if-behind-next.false,
)

pub returns : goal.returns
returns c = let a = c.args in
    let w = c.loop-next.invariant.3 in
    let over : Stopped a.s.now blank_line (a.number + c.loop-next.lines) c.loop-next.next = elim c.loop-next-test.branch [
      | else-loop-next-test v ↦ walked_over a.s.now blank_line a.number a.at c.loop-next.lines c.loop-next.next v.loop-next-test.false
      | then-loop-next-test+then-behind-next v ↦ blank_stop a.s.now a.number a.at c.loop-next.lines c.loop-next.next v.past_blank-behind.ensures.0
          v.loop-next-test.true w v.if-behind-next.true
    ] in
    next_is a.s.now a.number a.at c.loop-next.lines c.loop-next.next w over
    (omega arith) (omega arith) (omega arith) (omega arith) (omega arith)
