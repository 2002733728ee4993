-- The words of the sections passed are written in all four tables, those of the sections ahead have room behind them.
use Prim.Native.Nat.{◌<◌}
use mathlib.Core.Path.{refl}
use native.Mathlib.Omega.{arith}
use lib.ListN.{length}
use Rattle.judging.proofs.AheadLaws.{ahead_low}
use Rattle.writing.proofs.SongLaws.{First, midway_start, midway_end, midway_lengths, midway_first, midway_room}
use Rattle.writing.proofs.SongLaws.{midway_further, midway_within, midway_fields, midway_few, midway_count, midway_lines, midway_next}
use Rattle.writing.proofs.songs.write_song.Goals as goal
use Rattle.writing.proofs.songs.write_song.Goals.{After-section_at-v, In-loop-at}

pub loop-at-init : goal.loop-at-init
loop-at-init c = (
  _,
  midway_start _ c.requires.song.0 c.requires.song.1,
  refl,
  refl,
  refl,
  refl,
  omega
      arith,
  omega arith,
  omega arith,
)

pub section_at-v-requires : goal.section_at-v-requires
section_at-v-requires c = let h = ahead_low c.loop-at.invariant.1.ahead in omega arith

-- The section at the place.
here : (c : After-section_at-v) → First c.args.s.now c.args.words.now c.args.count
    (record {
      sections = c.args.sections.now;
      measures = c.args.measures.now;
      beats = c.args.beats.now;
      items = c.args.items.now;
    })
    c.loop-at.at c.args.rows.to c.loop-at.k
    c.loop-at.m
    c.loop-at.b c.loop-at.i
    (record {
      sections = c.loop-at.sections;
      measures = c.loop-at.measures;
      beats = c.loop-at.beats;
      items = c.loop-at.items;
    })
here c = midway_first c.loop-at.invariant.0 c.loop-at.invariant.1 c.loop-at-test.true

pub play_section-c-requires : goal.play_section-c-requires
play_section-c-requires c =
    let l = c.loop-at in
    let f = here (goal.at.play_section-c-requires c).After-section_at-v in
    midway_within c.requires.song.0 f.midway c.requires.room c.section_at-v.ensures c.arrangement_in.ensures

pub section_word-requires : goal.section_word-requires
section_word-requires c =
    let l = c.loop-at in
    let f = here (goal.at.section_word-requires c).After-section_at-v in
    midway_fields c.requires.song.0 f.midway c.requires.room c.section_at-v.ensures c.arrangement_in.ensures c.play_section-c.ensures

-- No table is longer than memory.
small : (c : In-loop-at) → (length c.loop-at.sections < 2305843009213693952)
    × (length c.loop-at.items < 2305843009213693952)
small c = let l = c.loop-at in (omega (arith, l.invariant.2), omega (arith, l.invariant.5))

room : (c : After-section_at-v) → c.loop-at.k < length c.loop-at.sections
room c =
    let l = c.loop-at in
    let k = midway_room c.requires.song.0 (here c).midway c.requires.room c.section_at-v.ensures in
    omega (arith, l.invariant.2)

pub offset_bounds-sections-k : goal.offset_bounds-sections-k
offset_bounds-sections-k c = omega (
  arith,
  room (goal.at.offset_bounds-sections-k c).After-section_at-v,
  (small (goal.at.offset_bounds-sections-k c).In-loop-at).0,
)

pub bounds-sections-k : goal.bounds-sections-k
bounds-sections-k c = room (goal.at.bounds-sections-k c).After-section_at-v

pub offset_bounds-items-i : goal.offset_bounds-items-i
offset_bounds-items-i c = omega (
  arith,
  (small (goal.at.offset_bounds-items-i c).In-loop-at).1,
  c.loop-at.invariant.8,
)

pub write_lyrics-i-requires : goal.write_lyrics-i-requires
write_lyrics-i-requires c =
    let l = c.loop-at in
    let f = here (goal.at.write_lyrics-i-requires c).After-section_at-v in
    midway_lines c.requires.song.0 f.midway c.requires.room c.section_at-v.ensures c.arrangement_in.ensures c.play_section-c.ensures c.lyrics_taken.ensures
    l.invariant.8 l.invariant.5

pub overflow_add-i : goal.overflow_add-i
overflow_add-i c =
    let l = c.loop-at in
    let f = here (goal.at.overflow_add-i c).After-section_at-v in
    let n = midway_count c.requires.song.0 f.midway c.requires.room c.section_at-v.ensures c.arrangement_in.ensures c.play_section-c.ensures
    c.lyrics_taken.ensures l.invariant.5 in
    omega (arith, c.write_lyrics-i.ensures.count, (small (goal.at.overflow_add-i c).In-loop-at).1)

pub overflow_add-k : goal.overflow_add-k
overflow_add-k c = omega (
  arith,
  room (goal.at.overflow_add-k c).After-section_at-v,
  (small (goal.at.overflow_add-k c).In-loop-at).0,
)

pub overflow_add-m : goal.overflow_add-m
overflow_add-m c =
    let l = c.loop-at in
    let f = here (goal.at.overflow_add-m c).After-section_at-v in
    omega (arith, (midway_few c.requires.song.0 f.midway c.requires.room c.section_at-v.ensures c.arrangement_in.ensures c.play_section-c.ensures).0)

pub overflow_add-b : goal.overflow_add-b
overflow_add-b c =
    let l = c.loop-at in
    let f = here (goal.at.overflow_add-b c).After-section_at-v in
    omega (arith, (midway_few c.requires.song.0 f.midway c.requires.room c.section_at-v.ensures c.arrangement_in.ensures c.play_section-c.ensures).1)

pub loop-at-smaller : goal.loop-at-smaller
loop-at-smaller c =
    let on = midway_further c.requires.song.0 (here (goal.at.loop-at-smaller c).After-section_at-v).midway c.requires.room c.section_at-v.ensures in
    omega (arith, c.loop-at-test.true)

pub loop-at-preserved : goal.loop-at-preserved
loop-at-preserved c =
    let l = c.loop-at in
    let f = here (goal.at.loop-at-preserved c).After-section_at-v in
    let w = midway_next c.requires.song.0 f.midway c.requires.room c.section_at-v.ensures c.arrangement_in.ensures c.play_section-c.ensures
    c.lyrics_taken.ensures
    c.section_word.ensures c.write_lyrics-i.ensures.count c.write_lyrics-i.ensures.items in
    let g = midway_lengths w c.requires.room in
    (f.others, w, g.0, g.1, g.2, g.3, g.4, g.5, g.6)

pub returns : goal.returns
returns c = let g = midway_end c.loop-at.invariant.1 c.loop-at-test.false in record {
  sections = g.0;
  measures = g.1;
  beats = g.2;
  items = g.3;
}
