-- The sections that are ahead in the row, of a song that stages 4 and 5 accept: each plays what the definitions say, and the tables have room.
use Prim.Native.Nat.{ℕ, ◌+◌, ◌*◌, ◌<◌, ◌≤◌}
use mathlib.Core.Path.{◌≡◌, refl, sym, ap, ◌∙◌}
use mathlib.Core.List.{List, [], ◌∷◌, flat_map}
use mathlib.Core.Bool.{not}
use mathlib.Core.Option.{Option, none, some}
use native.Mathlib.Omega.{arith}
use lib.ListN.{length}
use Rattle.songcode.specs.Lists.{is_some}
use Rattle.songcode.specs.Song as song
use Rattle.songcode.specs.Song.{Items, Pattern, items, named, Side, Section}
use Rattle.songcode.specs.Answer.PatternText.{loops_deep}
use Rattle.songcode.specs.Answer.References.{pattern_items}
use Rattle.songcode.specs.Answer.Playing.{side_measures, measures_of, time_of, bpm_of, played}
use Rattle.songcode.specs.Description.Performance.{total}
use Rattle.songcode.specs.Answer.Meter.{section_meter, meter_faults, section_count, length_faults}
use Rattle.songcode.specs.Answer.Answer.{song_of}
use Rattle.songcode.proofs.GlueLaws.{put_in_same}
use Rattle.songcode.proofs.ListLaws.{append_is_nil}
use Rattle.songcode.proofs.SectionPlays.{pass_of}
use Rattle.score.specs.declared.stretches.Stretch.{Stretch}
use Rattle.score.specs.declared.views.View.{View}
use Rattle.score.specs.Places.{played_text}
use Rattle.score.specs.Standing.{Stands}
use Rattle.score.specs.Even.{even_measures, even_pattern}
use Rattle.score.specs.Sections.{items_row, side_row, pattern_row}
use Rattle.score.specs.Fitting.{PlainFits, SideFits, PatternFits, CutSmall, SectionFits, SectionsFit}
use Rattle.score.specs.Views.{view_by, view_of}
use Rattle.score.specs.Seen.{Holds, RowFrom, cut_taken, Sees}
use Rattle.score.proofs.PlayedLaws.{plain_played, named_played}
use Rattle.score.proofs.ViewLaws.{view_sees, view_next, view_further, row_over, row_more}
use Rattle.player.specs.Texts.{row_words}
use Rattle.player.specs.Walks.{row_of}
use Rattle.player.specs.Windows.{cut_said}
use Rattle.player.specs.Arrangements.{arrangement_in, arranged_row, PlaysWithin}
use Rattle.player.proofs.Meaning.{row_meaning}
use Rattle.player.proofs.SectionMeaning.{rows_length, rows_total}
use Rattle.player.proofs.Walkables.{plain_walkable, empty_row}
use Rattle.laying.specs.Scores.{named_text, is_empty_text, Ready}
use Rattle.laying.proofs.ReadyLaws.{ready_told, ready_carries}
use Rattle.laying.proofs.EmptyLaws.{empty_pattern}
use Rattle.judging.proofs.CarriedLaws.{carried}
use Rattle.judging.proofs.ArrangedLaws.{Arranges, arranged_plays, arranged_within, arranged_beats}
use Rattle.judging.proofs.PlayedLaws.{played_short, lengths_step}

-- The rows of texts that stand in stretches.
module _ (ws : List ℕ) (n : ℕ) (t : Stretch) where
  plain_row : (r : Items) → PlainFits r → Stands ws t r → row_of n ws t ≡ row_words (measures_of n none r)
  unfolding loops_deep
  plain_row r f stands =
      let g : ℕ → Option Items = λ k. none in
      let deep = f.shallow in
      row_meaning ws g n r t (plain_walkable ws g r f.words f.plain (omega arith)) stands
      ∙ ap (λ (q : Items). row_words (measures_of n none q)) (put_in_same g r f.plain)

  side_row_lem : (o : Option Side) → SideFits o → Holds ws t (side_row o) → row_of n ws t ≡ row_words (side_measures n o)
  unfolding SideFits side_row items_row side_measures row_words Stands
  side_row_lem none f h = let e = h.size in empty_row n ws t (omega arith)
  side_row_lem (some x) f h = plain_row x.items f h.words

module _ {s ws : List ℕ} {mark : ℕ} (ready : Ready s ws mark) where
  pattern_row_lem : (n : ℕ) (t : Stretch) (p : Pattern) → PatternFits p → Holds ws t (pattern_row p)
      → row_of n ws (played_text ws t) ≡ row_words (pass_of n (pattern_items (song_of s).definitions p))
  unfolding PatternFits pattern_row items_row pattern_items pass_of Stands named_text
  pattern_row_lem n t (items r) f h = rw (plain_played ws t r f h.words) (plain_row ws n t r f h.words)
  pattern_row_lem n t (named k) f h =
      rw (named_played ws t k f.1 h.words)
      (carried ws n (named_text ws k) (pattern_items (song_of s).definitions (named k)) (ready_carries ready k))

  cut_taken_lem : (o : Option song.Cut) → cut_taken o ≡ cut_said o
  unfolding cut_taken cut_said
  cut_taken_lem none = refl
  cut_taken_lem (some c) = refl

  cut_few : (o : Option song.Cut) → CutSmall o → (cut_taken o).beats.0 ≤ 9999
  unfolding CutSmall cut_taken
  cut_few none f = omega arith
  cut_few (some c) f = f.1

  -- A section that is seen.
  pub seen_arranges : (x : Section) (v : View) → SectionFits (song_of s) x → Sees (song_of s) ws x v → Arranges (song_of s) x ws (arrangement_in ws v)
  unfolding arrangement_in even_pattern
  seen_arranges x v f w =
      record {
        meter = w.meter;
        repeat = w.repeat;
        front = w.front ∙ cut_taken_lem x.modifiers.cut_start;
        back = w.back ∙ cut_taken_lem x.modifiers.cut_end;
        even = w.even ∙ ap (λ (n : ℕ). even_measures n (pattern_items (song_of s).definitions x.pattern)) (sym w.meter);
        few = rw w.front (cut_few x.modifiers.cut_start f.front);
        lead = side_row_lem ws v.meter v.lead x.modifiers.before f.lead w.lead;
        pattern = pattern_row_lem v.meter v.pattern x.pattern f.pattern w.pattern;
        tail = side_row_lem ws v.meter v.tail x.modifiers.after f.tail w.tail;
      }

-- These sections are left in the row from the place on, behind so many measures and beats.
pub record Ahead (s ws : List ℕ) (at end m b : ℕ) (xs : List Section) : Type 0 where
  pub row : RowFrom (song_of s) ws at end xs
  pub fits : SectionsFit (song_of s) xs
  pub sofar : ℕ
  pub few : sofar ≤ 65535
  pub measures : m ≤ sofar
  pub beats : b ≤ 32 * sofar
  pub meters : flat_map (section_meter (song_of s)) xs ≡ []
  pub lengths : length_faults (song_of s) sofar xs ≡ []

pub ahead_start : {s ws : List ℕ} {at end : ℕ} → RowFrom (song_of s) ws at end (song_of s).sections → SectionsFit (song_of s) (song_of s).sections
    → meter_faults (song_of s) ≡ [] → length_faults (song_of s) 0 (song_of s).sections ≡ [] → Ahead s ws at end 0 0 (song_of s).sections
unfolding meter_faults
ahead_start {s} r f e l =
    record { row = r; fits = f; sofar = 0; few = omega arith; measures = omega arith; beats = omega arith; meters = e; lengths = l }

pub ahead_same : {s ws : List ℕ} {at end m n b d : ℕ} {xs : List Section} → n ≡ m → d ≡ b → Ahead s ws at end m b xs → Ahead s ws at end n d xs
ahead_same e f a =
    record {
      row = a.row;
      fits = a.fits;
      sofar = a.sofar;
      few = a.few;
      measures = omega (arith, a.measures);
      beats = omega (arith, a.beats);
      meters = a.meters;
      lengths = a.lengths;
    }

-- A section is left before the end, and none at it.
pub ahead_some : {s ws : List ℕ} {at end m b : ℕ} → Ahead s ws at end m b [] → at < end → ⊥
ahead_some {s} {ws} {at} {end} a h = let e = row_more (song_of s) ws at end a.row in omega arith

pub ahead_none : {s ws : List ℕ} {at end m b : ℕ} (xs : List Section) → Ahead s ws at end m b xs → end ≤ at → xs ≡ []
ahead_none {s} {ws} {at} {end} xs a h = row_over (song_of s) ws at end xs a.row h

-- Counts are not needed along the sections.
pub ahead_alone : {s ws : List ℕ} {at end m b : ℕ} {xs : List Section} → Ahead s ws at end m b xs → Ahead s ws at end 0 0 xs
ahead_alone a =
    record {
      row = a.row;
      fits = a.fits;
      sofar = a.sofar;
      few = a.few;
      measures = omega arith;
      beats = omega arith;
      meters = a.meters;
      lengths = a.lengths;
    }

-- The place is low.
pub ahead_low : {s ws : List ℕ} {at end m b : ℕ} {xs : List Section} → Ahead s ws at end m b xs → at ≤ 100000
ahead_low a =
    let e = a.row.size in
    let f = a.row.few in
    omega arith

-- The next section is seen and played.
module _ {s ws : List ℕ} {mark at end m b : ℕ} {x : Section} {xs : List Section} (ready : Ready s ws mark) (a : Ahead s ws at end m b (x ∷ xs)) where
  pub ahead_fits : SectionFits (song_of s) x
  unfolding SectionsFit
  ahead_fits = a.fits.0

  pub ahead_sees : Sees (song_of s) ws x (view_of ws at)
  ahead_sees = view_sees (song_of s) ws at end x xs ahead_fits a.row

  arranges : Arranges (song_of s) x ws (arrangement_in ws (view_of ws at))
  arranges = seen_arranges ready x (view_of ws at) ahead_fits ahead_sees

  here_lengths : (a.sofar + section_count (song_of s) x ≤ 65535) × (length_faults (song_of s) (a.sofar + section_count (song_of s) x) xs ≡ [])
  here_lengths = lengths_step (song_of s) a.sofar x xs a.lengths a.few

  here_meters : (section_meter (song_of s) x ≡ []) × (flat_map (section_meter (song_of s)) xs ≡ [])
  unfolding flat_map
  here_meters = append_is_nil (section_meter (song_of s) x) (flat_map (section_meter (song_of s)) xs) a.meters

  pub ahead_within : (base : ℕ) → base ≤ b → PlaysWithin ws (arrangement_in ws (view_of ws at)) base
  ahead_within base h = let g = a.beats in arranged_within arranges base a.sofar here_lengths.0 (omega arith)

  pub ahead_row : arranged_row ws (arrangement_in ws (view_of ws at)) ≡ row_words (played (song_of s) x)
  ahead_row = arranged_plays arranges here_meters.0

  pub ahead_empty : is_empty_text ws (view_of ws at).pattern ≡ not (is_some (pattern_items (song_of s).definitions x.pattern))
  ahead_empty = empty_pattern ws (view_of ws at).pattern (ready_told ready) x.pattern ahead_fits.pattern ahead_sees.pattern

  pub ahead_further : at < (view_of ws at).next
  ahead_further = view_further (song_of s) ws at end x xs ahead_fits a.row

  -- Its lyric lines end where the next section begins.
  pub ahead_lyrics : (view_of ws at).lyrics.to ≤ 100000
  unfolding view_of view_by
  ahead_lyrics =
      let r = view_next (song_of s) ws at end x xs ahead_fits a.row in
      let e = r.size in
      let f = r.few in
      omega arith

  -- The fields of its word in the table have room.
  pub ahead_fields : (v : View) → v ≡ view_of ws at → (k : ℕ) → k ≡ length (played (song_of s) x)
      → (v.header < 131072) × (m < 65536) × (k < 65536) × (v.meter < 64) × (v.tempo < 512)
  ahead_fields v is k e =
      let w = ahead_sees in
      let f = ahead_fits in
      let header : v.header ≡ x.header = ap (λ (y : View). y.header) is ∙ w.header in
      let meter : v.meter ≡ time_of (song_of s) x = ap (λ (y : View). y.meter) is ∙ w.meter in
      let tempo : v.tempo ≡ bpm_of (song_of s) x = ap (λ (y : View). y.tempo) is ∙ w.tempo in
      let few = played_short (song_of s) x in
      let long = here_lengths.0 in
      (omega (arith, f.last), omega (arith, a.measures, a.few), omega arith, omega (arith, f.meter), omega (arith, f.tempo))

  -- The counts of the row that the code plays.
  pub ahead_measures : (k : ℕ) → k ≡ length (arranged_row ws (arrangement_in ws (view_of ws at))) → k ≡ length (played (song_of s) x)
  ahead_measures k h = h ∙ ap length ahead_row ∙ rows_length (played (song_of s) x)

  pub ahead_beats : (k : ℕ) → k ≡ total (arranged_row ws (arrangement_in ws (view_of ws at))) → k ≡ total (played (song_of s) x)
  ahead_beats k h = h ∙ ap total ahead_row ∙ rows_total (played (song_of s) x)

  pub ahead_next : Ahead s ws (view_of ws at).next end (m + length (played (song_of s) x)) (b + total (played (song_of s) x)) xs
  unfolding SectionsFit
  ahead_next =
      let h = a.measures in
      let g = a.beats in
      let k = played_short (song_of s) x in
      let t = arranged_beats arranges in
      let u = ahead_beats (total (arranged_row ws (arrangement_in ws (view_of ws at)))) refl in
      record {
        row = view_next (song_of s) ws at end x xs ahead_fits a.row;
        fits = a.fits.1;
        sofar = a.sofar + section_count (song_of s) x;
        few = here_lengths.0;
        measures = omega arith;
        beats = omega arith;
        meters = here_meters.1;
        lengths = here_lengths.1;
      }
