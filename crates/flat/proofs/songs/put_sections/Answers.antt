-- Section by section: each is seen in the row, plays what the definitions say, and is written as a block.
use mathlib.Core.Path.{refl, sym, ap, ◌∙◌, subst}
use mathlib.Core.List.{List}
use native.Mathlib.Omega.{arith}
use Rattle.songcode.specs.Song.{Section}
use Rattle.songcode.proofs.ListLaws.{Each}
use Rattle.judging.proofs.AheadLaws.{Ahead, ahead_start, ahead_low}
use Rattle.judging.proofs.WholeLaws.{laid_ready, laid_row}
use Rattle.flat.specs.Blocks.{flat_from, put_blocks}
use Rattle.flat.proofs.RowLaws.{seen_plays, seen_next}
use Rattle.flat.proofs.SectionLaws.{section_first, leads_first, blocks_next, none_left}
use Rattle.flat.proofs.SongLaws.{HeardIn, heard_all}
use Rattle.flat.proofs.songs.put_sections.Goals as goal

pub loop-place-init : goal.loop-place-init
loop-place-init c =
    let s = c.args.s.now in
    let begins = c.requires.song.2 in
    let l = c.requires.song.3 in
    let all = sym begins.sections in (
      c.args.rows.to,
      subst (λ (xs : List Section). Ahead s c.args.words.now c.args.rows.from c.args.rows.to 0 0 xs) all
          (ahead_start (laid_row l) l.sized.fits l.clear.meters l.clear.lengths),
      begins.onward,
      subst (λ (xs : List Section). Each (HeardIn s) xs) all (heard_all s c.requires.song.0 c.requires.song.1 l.clear),
      c.requires.lent,
      refl,
      refl,
      refl,
      refl,
    )

pub section_at-v-requires : goal.section_at-v-requires
section_at-v-requires c = let h = ahead_low c.loop-place.invariant.1 in omega arith

pub put_section-done-requires : goal.put_section-done-requires
unfolding Each
put_section-done-requires c =
    let l = c.loop-place in
    let s = c.args.s.now in
    let inside = c.loop-place-test.true in
    let first = section_first l.invariant.2 inside in
    let heard = (subst (λ (xs : List Section). Each (HeardIn s) xs) first l.invariant.3).0 in
    let p = seen_plays (laid_ready c.requires.song.3) first l.invariant.1 c.section_at-v.ensures c.arrangement_in-x.ensures in record {
      place = (l.invariant.2, inside);
      meter = p.0;
      plays = p.1;
      row = p.2;
      heard = heard;
      lent = l.invariant.4;
    }

pub loop-place-smaller : goal.loop-place-smaller
loop-place-smaller c =
    omega (arith, c.put_section-done.ensures.next.further, c.loop-place-test.true)

pub loop-place-preserved : goal.loop-place-preserved
unfolding Each
loop-place-preserved c =
    let l = c.loop-place in
    let s = c.args.s.now in
    let next = c.put_section-done.ensures.next in
    let first = leads_first next in (
      l.invariant.0,
      seen_next (laid_ready c.requires.song.3) first l.invariant.1 c.section_at-v.ensures,
      next.onward,
      (subst (λ (xs : List Section). Each (HeardIn s) xs) first l.invariant.3).1,
      c.put_section-done.ensures.lent,
      c.put_section-done.auto.measures ∙ l.invariant.5,
      c.put_section-done.auto.beats ∙ l.invariant.6,
      c.put_section-done.auto.copy ∙ l.invariant.7,
      ap (put_blocks (flat_from s c.put_section-done.result.next)) c.put_section-done.ensures.copy
          ∙ sym (blocks_next s l.place c.put_section-done.result.next _ next.opened)
          ∙ l.invariant.8,
    )

pub returns : goal.returns
returns c =
    let l = c.loop-place in
    let s = c.args.s.now in
    sym (none_left s l.place _ c.loop-place-test.false) ∙ l.invariant.8
