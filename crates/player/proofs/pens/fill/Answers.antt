-- Beat by beat: the n - i beats that are left end as all n do from the first pen on, and a fine pen stays fine.
use Rattle.player.proofs.PageLaws.{fill_next, fill_end, fine_of, moved_beat}
use Rattle.std.proofs.Common.{arith, rules}
use Rattle.player.proofs.pens.fill.Goals as goal

pub loop-beat-preserved : goal.loop-beat-preserved
loop-beat-preserved c =
    let l = c.loop-beat in
    let a = c.args in
    let e = c.beat-q in (
      omega arith,
      search rules,
      fine_of e.ensures (moved_beat a.w (record { pen = l.q; bs = l.bs }) l.invariant.2).fine,
      fill_next a.n l._beat a.w _ _ _ c.loop-beat-test.true e.ensures l.invariant.3,
    )

pub returns : goal.returns
returns c =
    let l = c.loop-beat in
    let a = c.args in
    fill_end a.n l._beat a.w _ _ c.loop-beat-test.false l.invariant.3
