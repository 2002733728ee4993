-- Beat by beat: the positions from i on, put on the sheet so far, give what the whole line gives; a gap and the letters make one position.
use mathlib.Core.Path.{refl}
use Rattle.flat.specs.Measures.{letters_at, positions}
use Rattle.flat.proofs.MeasureLaws.{beat_next, beat_over}
use borrow.Author.Rules.{rules}
use Rattle.flat.proofs.measures.put_beats.Goals as goal

pub loop-i-init : goal.loop-i-init
unfolding positions
loop-i-init c = (refl, refl)

pub loop-i-preserved : goal.loop-i-preserved
loop-i-preserved c =
    let a = c.args in
    let l = c.loop-i in (
      search rules,
      beat_next (letters_at a.s.now) a.beats.now l.i _ _ _ _ c.loop-i-test.true c.put_space-out.ensures
          c.put_letters-out.ensures l.invariant.1,
    )

pub returns : goal.returns
returns c =
    let a = c.args in
    let l = c.loop-i in
    beat_over (letters_at a.s.now) a.beats.now l.i _ _ c.loop-i-test.false l.invariant.1
