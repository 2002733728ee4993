-- Every line passed opens as the test wants and is not parted off.
use borrow.Author.Tests.{not-true, not-false}
use Rattle.sections.specs.Runs.{passing}
use Rattle.sections.proofs.RunLaws.{tested_shut, tested_parted, tested_whole, walked_none, walked_more, walked_stop, walked_over, longest}
use native.Mathlib.Omega.{arith}
use mathlib.Core.Path.{refl}
use Prim.Native.Nat.{◌+◌}
use Rattle.sections.proofs.runs.run_of.Goals as goal

pub loop-next-init : goal.loop-next-init
loop-next-init c = (omega arith, omega arith, omega arith, walked_none _ _ _ _)

pub returns-then-not-opens : goal.returns-then-not-opens
returns-then-not-opens c = let a = c.args in
    longest a.s.now a.test a.number a.at c.loop-next.lines c.loop-next.next (omega arith) (omega arith) (omega arith) c.loop-next.invariant.3
    (walked_stop a.s.now (passing a.test) a.number a.at c.loop-next.lines c.loop-next.next refl c.loop-next-test.true
    c.loop-next.invariant.3
    (tested_shut a.s.now a.test (a.number + c.loop-next.lines) c.loop-next.next c.opens.ensures (not-true _ c.if-not-opens.true-raw)))

pub returns-then-is_parted : goal.returns-then-is_parted
returns-then-is_parted c = let a = c.args in
    let found = c.line_at-line.ensures in
    longest a.s.now a.test a.number a.at c.loop-next.lines c.loop-next.next (omega arith) (omega arith) (omega arith) c.loop-next.invariant.3
    (walked_stop a.s.now (passing a.test) a.number a.at c.loop-next.lines c.loop-next.next found.is c.loop-next-test.true
    c.loop-next.invariant.3
    (tested_parted a.s.now a.test found c.opens.ensures c.is_parted.ensures
    (not-false _ c.if-not-opens.false-raw) c.if-is_parted.true))

pub loop-next-preserved : goal.loop-next-preserved
loop-next-preserved c = let a = c.args in
    let found = c.line_at-line.ensures in (
      omega arith,
      omega arith,
      omega arith,
      walked_more a.s.now (passing a.test) a.number a.at c.loop-next.lines c.loop-next.next found.is c.loop-next-test.true
          c.loop-next.invariant.3
          (tested_whole a.s.now a.test found c.opens.ensures c.is_parted.ensures
          (not-false _ c.if-not-opens.false-raw) c.if-is_parted.false),
    )

pub returns-after-loop-next : goal.returns-after-loop-next
returns-after-loop-next c = let a = c.args in
    longest a.s.now a.test a.number a.at c.loop-next.lines c.loop-next.next (omega arith) (omega arith) (omega arith) c.loop-next.invariant.3
    (walked_over a.s.now (passing a.test) a.number a.at c.loop-next.lines c.loop-next.next c.loop-next-test.false)
