-- Measure by measure: the lines of the measures from here on, put on the sheet so far, give what those of all give.
use mathlib.Core.Path.{refl}
use lib.ListN.{take}
use Rattle.flat.proofs.MeasureLaws.{measure_next, measure_over}
use borrow.Author.Rules.{rules}
use Rattle.flat.proofs.measures.put_measures.Goals as goal

pub loop-word-init : goal.loop-word-init
loop-word-init c = (refl, refl)

pub loop-word-preserved : goal.loop-word-preserved
loop-word-preserved c =
    let l = c.loop-word in
    let a = c.args in
    let m = c.measure_of-m in (
      search rules,
      measure_next a.s.now a.n a.beats.now (take a.k a.measures.now) l.word-index m.result c.min-first.result c.min-end.result _ _ _
          c.loop-word-test.true m.ensures c.min-first.ensures c.min-end.ensures c.put_measure-out.ensures l.invariant.1,
    )

pub returns : goal.returns
returns c =
    let a = c.args in
    measure_over a.s.now a.n a.beats.now (take a.k a.measures.now) c.loop-word.word-index _ _ c.loop-word-test.false c.loop-word.invariant.1
