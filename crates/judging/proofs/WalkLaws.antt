-- The walk over the sections: what is known of those before a place, with one more section, and behind the last.
use mathlib.Core.Option.{get_or}
use mathlib.Core.Option as option
use Rattle.std.specs.Prelude as std
use Rattle.std.specs.Prelude.{None, Result, Ok}
use Rattle.std.specs.Result.{result_err}
use Prim.Native.Nat.{ℕ, ◌+◌, ◌*◌, ◌<◌, ◌≤◌}
use mathlib.Core.Path.{◌≡◌, refl, sym, ap, ◌∙◌, subst}
use mathlib.Core.List.{List, [], ◌∷◌, flat_map}
use mathlib.Core.Bool.{◌||◌}
use native.Mathlib.Omega.{arith}
use lib.ListN.{length}
use Rattle.songcode.specs.Lists.{provided◌then◌else◌, any}
use Rattle.songcode.specs.Complaints.{verdict, stage_or}
use Rattle.songcode.specs.Song.{Section, Song}
use Rattle.songcode.specs.Answer.References.{reference_faults}
use Rattle.songcode.specs.Answer.Playing.{time_among, played}
use Rattle.songcode.specs.Description.Performance.{total}
use Rattle.songcode.specs.Answer.Meter.{section_meter, meter_faults, section_count, length_faults}
use Rattle.songcode.specs.Answer.Lyrics.{is_counted, lines_taken, has_counts, count_faults, sum_faults}
use Rattle.songcode.specs.Answer.Tables.{tables}
use Rattle.songcode.specs.Answer.Answer.{song_of}
use Rattle.songcode.proofs.ListLaws.{Each}
use Rattle.refusals.specs.declared.Refusal.{Refusal}
use Rattle.refusals.specs.Refusals.{told}
use Rattle.player.specs.Texts.{row_words}
use Rattle.player.proofs.SectionMeaning.{rows_length, rows_total}
use Rattle.sections.specs.declared.blocks.Place.{Place}
use Rattle.sections.specs.declared.values.Keys.{Keys}
use Rattle.sections.specs.Onward.{Onward, sections_from, section_at}
use Rattle.sections.proofs.MeetLaws.{sections_over}
use Rattle.outlines.proofs.ChordLaws.{or_false}
use Rattle.laying.specs.declared.texts.Opened.{Opened}
use Rattle.laying.specs.Scores.{Begins, Opens}
use Rattle.judging.specs.declared.measures.Metered.{Metered}
use Rattle.judging.specs.declared.lyrics.Tally.{Tally}
use Rattle.judging.specs.declared.singing.Sung.{Sung}
use Rattle.laying.specs.Rows.{Lays}
use Rattle.judging.specs.Meters.{meter_fault}
use Rattle.judging.specs.Measures.{with_measures, metered_refusal}
use Rattle.judging.specs.Lyrics.{first_line, tally_in, bare_line, count_fault}
use Rattle.judging.specs.Sums.{row_of_texts, counts_of, totals_of, Holds}
use Rattle.judging.specs.Singing.{sung_with, Singable, off_fault, lyric_refusal}
use Rattle.judging.specs.Walking.{nothing_metered, nothing_sung, walk_refusal}
use Rattle.judging.specs.Stages.{lyric_faults, playing_faults, later_faults}
use Rattle.refusals.specs.Ranks.{least, refusal_at}
use Rattle.refusals.proofs.RankLaws.{earliest_least}
use Rattle.judging.proofs.SmallMeters.{meters_small}
use Rattle.laying.proofs.MeterLaws.{meter_range}
use Rattle.judging.proofs.JudgedLaws.{Judged, judged_start, judged_next, judged_clear, judged_end, opened_fault}
use Rattle.judging.proofs.OpenedLaws.{all_counted}
use Rattle.judging.proofs.LengthsAreLaws.{LengthsAre, lengths_start, lengths_small, lengths_added, lengths_next, lengths_end}
use Rattle.judging.proofs.PlayedLaws.{played_short}
use Rattle.judging.proofs.PlayLaws.{texts_play, texts_within, texts_beats}
use Rattle.judging.proofs.TallyLaws.{first_zero, lyrics_inside, lyrics_tallied}
use Rattle.judging.proofs.TakenLaws.{Numbered as Numbered-lines, taken_from, taken_numbered, taken_counted, taken_bare, count_refusal}
use Rattle.judging.proofs.SumLaws.{opened_empty, lines_numbered, opened_lines, opened_differs, opened_summed, Summed, summed_from, summed_end}
use Rattle.judging.proofs.OffLaws.{OffIs, off_start, off_next, off_refusal}
use Rattle.judging.proofs.StageLaws.{stage_passed, told_none, none_told, none_err, told_or, given_none, two_stages, groups_given}

-- What stages 6 and 7 know of the sections before the place, which have so many measures before cuts.
pub record SungIs (s : List ℕ) (p : Place) (k : ℕ) (y : Sung) : Type 0 where
  pub sections : y.sums.sections ≤ p.at
  pub measures : y.sums.measures ≤ k
  pub beats : y.sums.beats ≤ 32 * k
  pub lines : y.sums.lines ≤ 65536 * y.sums.sections
  pub summed : Summed (song_of s) (sections_from s p) y.sums
  pub counted : y.taken.counted || any is_counted (taken_from (song_of s) (sections_from s p)) ≡ has_counts (song_of s)
  pub bare : first_line y.taken.bare (bare_line (taken_from (song_of s) (sections_from s p))) ≡ bare_line (lines_taken (song_of s))
  pub numbered : Numbered-lines (taken_from (song_of s) (sections_from s p)) → Numbered-lines (lines_taken (song_of s))
  pub off : OffIs s p y.off

-- What is known of the sections before the place; they are counted as long as stages 4 and 5 refuse nothing.
pub record Walked (s : List ℕ) (p : Place) (x : Metered) (y : Sung) : Type 0 where
  pub meters : Judged s p x.meters
  pub lengths : LengthsAre s p x.lengths
  pub sung : refusal_at x.meters ≡ option.none → (k : ℕ) → x.lengths ≡ Ok k → SungIs s p k y

sung_start : (s : List ℕ) (p : Place) → Begins s p → SungIs s p 0 nothing_sung
unfolding has_counts lines_taken first_line provided◌then◌else◌
sung_start s p b =
    record {
      sections = omega arith;
      measures = omega arith;
      beats = omega arith;
      lines = omega arith;
      summed = summed_from (song_of s) (sections_from s p) b.sections;
      counted = ap (λ (xs : List Section). any is_counted (taken_from (song_of s) xs)) b.sections;
      bare = ap (λ (xs : List Section). bare_line (taken_from (song_of s) xs)) b.sections;
      numbered = λ h. subst (λ (xs : List Section). Numbered-lines (taken_from (song_of s) xs)) b.sections h;
      off = off_start s p b;
    }

pub walked_start : {s : List ℕ} {p : Place} → Begins s p → Walked s p nothing_metered nothing_sung
walked_start {s} {p} b =
    record {
      meters = judged_start s p b;
      lengths = lengths_start s p b;
      sung = λ z k e. subst (λ (i : ℕ). SungIs s p i nothing_sung) (sym (same_ok e)) (sung_start s p b);
    }
  where
    same_ok : {i k : ℕ} → ◌≡◌ {A = Result ℕ Refusal} (Ok i) (Ok k) → k ≡ i
    same_ok h = cc

-- One more section is laid and opened, and played in its N.
module _ {s old ws : List ℕ} {p : Place} {keys : Keys} {at : ℕ} (r : Opened) (l : Lays s p keys at old ws r) (o : Onward s p) (inside : p.at < length s)
    (t : keys.time ≡ get_or (time_among (song_of s).keys) 0) where
  abbrev song : Song
  song = song_of s

  abbrev here : Section
  here = section_at s p

  abbrev w : Opens s p ws r
  w = l.opens

  abbrev n : ℕ
  n = r.meter

  abbrev lines : Tally
  lines = tally_in ws r.lyrics

  some_beat : 1 ≤ n
  some_beat =
      let h = (meter_range song here).0 in
      let e = l.meter in
      omega arith

  few_beats : n ≤ 32
  few_beats =
      let h = (meter_range song here).1 in
      let e = l.meter in
      omega arith

  module _ (x : Metered) (y : Sung) (before : Walked s p x y) where
    abbrev next : Metered
    next = with_measures ws n r x

    fault : meter_fault r.section.header r.section.modifiers r.texts n ≡ least (section_meter song here)
    fault = opened_fault s ws p r w t l.said refl

    next_meters : Judged s r.next next.meters
    next_meters = judged_next s p x.meters _ fault before.meters r.next w.met.first

    next_lengths : LengthsAre s r.next next.lengths
    next_lengths = rw l.said (lengths_next s ws p r w t o inside x.lengths before.lengths)

    -- Stages 4 and 5 refuse nothing up to its end.
    module _ (clear : refusal_at next.meters ≡ option.none) (k : ℕ) (fine : next.lengths ≡ Ok k) where
      unrefused_meters : (refusal_at x.meters ≡ option.none) × (section_meter song here ≡ [])
      unrefused_meters = judged_clear s p x.meters _ fault before.meters clear

      small_next : k ≤ 65535
      small_next = let h = lengths_small s r.next next.lengths next_lengths in rw fine at h

      added : (j : ℕ) × (x.lengths ≡ Ok j) × (k ≡ j + section_count song here)
      added =
          let a = lengths_added ws n r.section.header r.section.modifiers r.texts x.lengths fine in
          let e = all_counted s ws p r w a.0 (subst (λ (i : ℕ). i ≤ 65535) a.2 small_next) in
          (a.0, a.1, a.2 ∙ ap (λ (i : ℕ). a.0 + i) e)

      abbrev sofar : ℕ
      sofar = added.0

      few : sofar + section_count song here ≤ 65535
      few = subst (λ (i : ℕ). i ≤ 65535) added.2 small_next

      is : SungIs s p sofar y
      is = before.sung unrefused_meters.0 sofar added.1

      row : row_of_texts ws n r.texts r.section.modifiers ≡ row_words (played song here)
      row =
          rw l.meter
          (texts_play song here ws r.texts r.section.modifiers w.texts w.met.says.repeat w.met.says.front w.met.says.back
          unrefused_meters.1)

      measures_are : length (row_of_texts ws n r.texts r.section.modifiers) ≡ length (played song here)
      measures_are = ap length row ∙ rows_length (played song here)

      beats_are : total (row_of_texts ws n r.texts r.section.modifiers) ≡ total (played song here)
      beats_are = ap total row ∙ rows_total (played song here)

      few_measures : length (row_of_texts ws n r.texts r.section.modifiers) ≤ section_count song here
      few_measures =
          let a = measures_are in
          let b = played_short song here in
          omega arith

      beats_short : total (row_of_texts ws n r.texts r.section.modifiers) ≤ 32 * section_count song here
      beats_short = texts_beats song here ws r.texts r.section.modifiers w.texts w.met.says.repeat n few_beats

      few_lines : lines.lines ≤ 65536
      few_lines =
          let e = opened_lines r w l.fits.lyrics lines (lyrics_tallied r l) in
          let h = l.fits.lyrics_few in
          omega arith

      sings : Singable ws n r y
      unfolding counts_of
      sings =
          let a = few_measures in
          let b = beats_short in
          let d = few_lines in
          let f = few in
          record {
            lyrics = lyrics_inside r l;
            plays =
                texts_within song here ws r.texts r.section.modifiers w.texts w.met.says.repeat n 0 sofar
                some_beat few_beats w.met.read.modifiers.front_fits few (omega arith);
            sums =
                record {
                  sections = omega (arith, is.sections);
                  measures = omega (arith, is.measures);
                  beats = omega (arith, is.beats);
                  lines = omega (arith, is.lines, is.sections);
                };
          }

      abbrev sung : Sung
      sung = sung_with r.texts.pattern.outline.empty r.section.header lines (counts_of ws n r.texts r.section.modifiers) y

      sung_next : SungIs s r.next k sung
      unfolding sung_with counts_of
      sung_next =
          let a = few_measures in
          let b = beats_short in
          let d = few_lines in
          let g = added.2 in
          let e = opened_empty r w in
          let f = l.fits.lyrics in
          let u = lyrics_tallied r l in
          let first = sym w.met.first in
          let rest = sections_from s r.next in
          record {
            sections = omega (arith, is.sections, w.met.further);
            measures = omega (arith, is.measures);
            beats = omega (arith, is.beats);
            lines = omega (arith, is.lines);
            summed = opened_summed r w f lines u y.sums _ _ _ refl refl measures_are beats_are is.summed;
            counted =
                taken_counted song here rest e y.taken u
                ∙ ap (λ (ys : List Section). y.taken.counted || any is_counted (taken_from song ys)) first ∙ is.counted;
            bare =
                taken_bare song here rest e y.taken u
                ∙ ap (λ (ys : List Section). first_line y.taken.bare (bare_line (taken_from song ys))) first ∙ is.bare;
            numbered = λ h.
                is.numbered (subst (λ (ys : List Section). Numbered-lines (taken_from song ys)) first
                (taken_numbered song here rest e (lines_numbered here.lyrics f) h));
            off = off_next r w o y.off _ (opened_differs r w f lines u _ measures_are) is.off;
          }

    walked_sung : Walked s r.next next (sung_with r.texts.pattern.outline.empty r.section.header lines (counts_of ws n r.texts r.section.modifiers) y)
    walked_sung = record { meters = next_meters; lengths = next_lengths; sung = λ z k e. sung_next z k e }

    walked_refused : (metered_refusal next ≡ option.none → ⊥) → Walked s r.next next y
    unfolding metered_refusal told stage_or
    walked_refused n = record { meters = next_meters; lengths = next_lengths; sung = λ z k e. absurd (n (rw (z, e) refl)) }

  -- As the code finds it.
  module _ (x : Metered) (y : Sung) (before : Walked s p x y) {z : Metered} (e : z ≡ with_measures ws n r x) where
    pub walk_on : {v : Sung} → v ≡ sung_with r.texts.pattern.outline.empty r.section.header lines
        (counts_of ws n r.texts r.section.modifiers) y → Walked s r.next z v
    walk_on g = rw (e, g) (walked_sung x y before)

    module _ (q : std.Option Refusal) (f : told q ≡ metered_refusal z) where
      unrefused_yet : q ≡ None → metered_refusal (with_measures ws n r x) ≡ option.none
      unrefused_yet h = ap metered_refusal (sym e) ∙ sym f ∙ told_none h

      pub walk_sings : q ≡ None → Singable ws n r y
      unfolding metered_refusal
      walk_sings h =
          let g = given_none _ _ (unrefused_yet h) in
          let k = none_err _ g.1 in
          sings x y before g.0 k.0 k.1

      pub walk_refused : (q ≡ None → ⊥) → {v : Sung} → v ≡ y → Walked s r.next z v
      walk_refused h g = rw (e, g) (walked_refused x y before (λ a. h (none_told q (f ∙ ap metered_refusal e ∙ a))))

-- Behind the last section.
module _ {s : List ℕ} {p : Place} (small : length s ≤ 65536) (over : length s ≤ p.at) (x : Metered) (y : Sung) (w : Walked s p x y) where
  abbrev all : Song
  all = song_of s

  metered_verdict : metered_refusal x ≡ verdict (meter_faults all ∷ length_faults all 0 all.sections ∷ [])
  unfolding metered_refusal
  metered_verdict =
      two_stages (meter_faults all) (length_faults all 0 all.sections) (refusal_at x.meters) (told (result_err x.lengths))
      (ap refusal_at (judged_end s p x.meters over w.meters) ∙ earliest_least (meter_faults all) (meters_small s small))
      (lengths_end s p x.lengths over w.lengths)

  -- Where stages 4 and 5 refuse nothing, all sections are counted.
  all_sung : metered_refusal x ≡ option.none → (k : ℕ) × SungIs s p k y
  unfolding metered_refusal
  all_sung z =
      let g = given_none _ _ z in
      let k = none_err _ g.1 in
      (k.0, w.sung g.0 k.0 k.1)

  lyric_verdict : metered_refusal x ≡ option.none → told (lyric_refusal y) ≡ verdict (lyric_faults all)
  unfolding lyric_faults Each flat_map any bare_line
  lyric_verdict z =
      let i = (all_sung z).1 in
      let gone = sections_over s p over in
      let counted = sym (or_false y.taken.counted)
      ∙ ap (λ (xs : List Section). y.taken.counted || any is_counted (taken_from all xs)) (sym gone) ∙ i.counted in
      let bare = sym (first_zero y.taken.bare)
      ∙ ap (λ (xs : List Section). first_line y.taken.bare (bare_line (taken_from all xs))) (sym gone) ∙ i.bare in
      let numbered = i.numbered (subst (λ (xs : List Section). Numbered-lines (taken_from all xs)) (sym gone) tt) in
      told_or (count_fault y.taken) (off_fault y.taken.counted y.off)
      ∙ two_stages (count_faults all) (sum_faults all) _ _ (count_refusal all y.taken counted bare numbered)
      (λ e. off_refusal s p y.off y.taken.counted over counted i.off)

  walk_verdict : walk_refusal x y ≡ verdict (playing_faults all)
  unfolding walk_refusal playing_faults
  walk_verdict =
      groups_given (meter_faults all ∷ length_faults all 0 all.sections ∷ []) (lyric_faults all) (metered_refusal x) (told (lyric_refusal y)) metered_verdict
      lyric_verdict

  pub later_verdict : reference_faults all ≡ [] → walk_refusal x y ≡ verdict (later_faults all)
  unfolding later_faults
  later_verdict e = walk_verdict ∙ sym (stage_passed (reference_faults all) (playing_faults all) e)

  pub outcome_holds : walk_refusal x y ≡ option.none → Holds (tables all) (totals_of y.sums)
  unfolding walk_refusal
  outcome_holds z =
      let i = (all_sung (given_none _ _ z).0).1 in
      summed_end all y.sums (subst (λ xs. Summed all xs y.sums) (sections_over s p over) i.summed)
