-- Section by section, until one plays nothing.
use mathlib.Core.Path.{refl, sym, ap, ◌∙◌}
use mathlib.Core.List.{List}
use native.Mathlib.Omega.{arith}
use Rattle.songcode.specs.Lists.{any}
use Rattle.songcode.specs.Song.{Section}
use Rattle.songcode.specs.Answer.Answer.{song_of}
use Rattle.songcode.specs.Answer.Flat.{plays_nothing}
use Rattle.judging.proofs.AheadLaws.{ahead_start, ahead_none, ahead_low}
use Rattle.judging.proofs.WholeLaws.{laid_ready, laid_row}
use Rattle.flat.proofs.SilentLaws.{silent_all}
use Rattle.flat.proofs.RowLaws.{left_first, left_empty, left_further}
use Rattle.flat.proofs.songs.has_empty.Goals as goal

pub loop-row-init : goal.loop-row-init
loop-row-init c =
    let l = c.requires in
    let song = song_of c.args.s.now in (
      song.sections,
      record {
        ahead = ahead_start (laid_row l) l.sized.fits l.clear.meters l.clear.lengths;
        silent = silent_all song 0 song.sections l.clear.lengths;
        same = refl;
      },
    )

pub section_at-v-requires : goal.section_at-v-requires
section_at-v-requires c = let h = ahead_low c.loop-row.invariant.1.ahead in omega arith

pub returns-then-is_empty : goal.returns-then-is_empty
returns-then-is_empty c =
    let l = c.loop-row in
    let f = left_first l.invariant.0 l.invariant.1 c.loop-row-test.true in
    (left_empty (laid_ready c.requires) f.left c.section_at-v.ensures c.is_empty.ensures).0 c.if-is_empty.true

pub loop-row-smaller : goal.loop-row-smaller
loop-row-smaller c =
    let l = c.loop-row in
    let f = left_first l.invariant.0 l.invariant.1 c.loop-row-test.true in
    let on = left_further (laid_ready c.requires) f.left c.section_at-v.ensures in
    omega (arith, c.loop-row-test.true)

pub loop-row-preserved : goal.loop-row-preserved
loop-row-preserved c =
    let l = c.loop-row in
    let f = left_first l.invariant.0 l.invariant.1 c.loop-row-test.true in
    (f.others, (left_empty (laid_ready c.requires) f.left c.section_at-v.ensures c.is_empty.ensures).1 c.if-is_empty.false)

pub returns : goal.returns
unfolding any
returns c =
    let l = c.loop-row.invariant in
    let song = song_of c.args.s.now in
    ap (λ (xs : List Section). any (plays_nothing song) xs) (sym (ahead_none l.0 l.1.ahead c.loop-row-test.false)) ∙ l.1.same
