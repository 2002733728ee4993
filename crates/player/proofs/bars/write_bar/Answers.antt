-- Position by position: what is left to be written ends as the whole measure does.
use Rattle.player.proofs.SignLaws.{here, past}
use Rattle.player.proofs.BarLaws.{bar_next, bar_room, bar_over}
use Rattle.player.specs.Signs.{sounds_as}
use Rattle.tokens.specs.Signs.{kind_of}
use Rattle.std.proofs.Common.{◌+◌, ◌*◌, get_or, refl, arith, rules}
use Rattle.player.proofs.bars.write_bar.Goals as goal

pub write_position-next-requires : goal.write_position-next-requires
write_position-next-requires c =
    let l = c.loop-w in
    let ps = c.args.bar.positions.now in
    let w = get_or ps l.w-index 0 in
    let r = bar_room _ _ c.args.bar.share w l.next (l.next + c.args.bar.share * sounds_as (kind_of w)) _ (here ps l.w-index c.loop-w-test.true) refl
    l.invariant.1 in
    omega (arith, r.0, l.invariant.0)

pub loop-w-preserved : goal.loop-w-preserved
loop-w-preserved c =
    let l = c.loop-w in
    let ps = c.args.bar.positions.now in
    let e = here ps l.w-index c.loop-w-test.true in
    let place = c.write_position-next.ensures.place in
    let r = bar_room _ _ c.args.bar.share (get_or ps l.w-index 0) l.next _ _ e place l.invariant.1 in
    let d = bar_next _ _ c.args.bar.share l.last.word (get_or ps l.w-index 0) c.chord_after-last.result.word l.next _ l.bs _ _
    e c.chord_after-last.ensures place c.write_position-next.ensures.beats l.invariant.2 in
    (search rules, r.1, d)

pub returns : goal.returns
returns c =
    let l = c.loop-w in
    bar_over _ c.args.bar.share l.last.word l.next l.bs _ (past c.args.bar.positions.now l.w-index c.loop-w-test.false) l.invariant.2
