-- Three cases by the pen's two numbers, as in the definition: a beat to pass over, none left to write, or one written.
use Rattle.player.proofs.PageLaws.{beat_skip, beat_over, beat_write}
use Rattle.player.proofs.pens.beat.Goals as goal

pub returns-then-p-gt0 : goal.returns-then-p-gt0
returns-then-p-gt0 c = let a = c.args in beat_skip a.w a.p a.bs.now c.if-p-gt0.true

pub returns-then-p-eq0 : goal.returns-then-p-eq0
returns-then-p-eq0 c = let a = c.args in beat_over a.w a.p a.bs.now c.if-p-gt0.false c.if-p-eq0.true

pub returns : goal.returns
returns c =
    let a = c.args in
    beat_write a.w a.p a.bs.now _ c.if-p-gt0.false
    c.if-p-eq0.false c.store.ensures
