-- Position by position: what is left to be written ends as the whole measure does.
use Rattle.player.proofs.SignLaws.{here, past}
use Rattle.player.proofs.LookLaws.{parts_next, parts_over, fine_part}
use Rattle.std.proofs.Common.{get_or, rules}
use Rattle.player.proofs.measures.positions.Goals as goal

pub loop-w-preserved : goal.loop-w-preserved
loop-w-preserved c =
    let l = c.loop-w in
    let ps = c.args.bar.positions.now in
    let w = get_or ps l.w-index 0 in
    let e = c.position-q.ensures in
    let d = parts_next _ _ c.args.bar.share l.last.word w c.chord_after-last.result.word _ _ _ (here ps l.w-index c.loop-w-test.true)
    c.chord_after-last.ensures e l.invariant.2 in
    (search rules, fine_part c.args.bar.share l.last.word w _ _ e l.invariant.1, d)

pub returns : goal.returns
returns c =
    let l = c.loop-w in
    parts_over _ c.args.bar.share l.last.word _ _ (past c.args.bar.positions.now l.w-index c.loop-w-test.false) l.invariant.2
