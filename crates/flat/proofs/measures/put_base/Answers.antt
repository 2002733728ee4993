-- Letter by letter: what is left of the name up to its first 0 is still to be put; behind three letters nothing is left, for no base has more.
use mathlib.Core.Path.{refl}
use native.Mathlib.Omega.{arith}
use Rattle.flat.proofs.MeasureLaws.{spelling_short, base_next, base_done, base_over}
use borrow.Author.Rules.{rules}
use Rattle.flat.proofs.measures.put_base.Goals as goal

pub loop-letter-init : goal.loop-letter-init
loop-letter-init c =
    let e = c.spelling_of-name.ensures in
    let h = spelling_short c.args.number in
    (refl, rw e (omega arith), rw e refl)

pub loop-letter-preserved : goal.loop-letter-preserved
loop-letter-preserved c =
    let l = c.loop-letter in
    let w = c.put-out.ensures in
    let e = base_next c.spelling_of-name.result l.letter-index _ _ _ c.if-letter-eq0.false w (l.invariant.1, l.invariant.2) in
    (search rules, e.0, e.1)

pub returns-then-letter-eq0 : goal.returns-then-letter-eq0
returns-then-letter-eq0 c =
    let l = c.loop-letter in
    base_done c.spelling_of-name.result l.letter-index _ _ c.if-letter-eq0.true l.invariant.2

pub returns-after-loop-letter : goal.returns-after-loop-letter
returns-after-loop-letter c =
    let l = c.loop-letter in
    base_over c.spelling_of-name.result l.letter-index _ _ c.loop-letter-test.false l.invariant.1 l.invariant.2
