-- The texts of an opened section play what the definitions say of the section, and few enough measures for the tables.
use Prim.Native.Nat.{ℕ, ◌+◌, ◌*◌, ◌≤◌}
use mathlib.Core.Path.{◌≡◌, ◌∙◌}
use mathlib.Core.List.{List, [], ◌++◌}
use native.Mathlib.Omega.{arith}
use lib.ListN.{length}
use Rattle.songcode.specs.Lists.{times}
use Rattle.songcode.specs.Song.{Section, Song}
use Rattle.songcode.specs.Answer.References.{pattern_items}
use Rattle.songcode.specs.Answer.Playing.{repeats}
use Rattle.songcode.specs.Answer.Playing.{side_measures, time_of, played}
use Rattle.songcode.specs.Description.Performance.{total}
use Rattle.songcode.specs.Answer.Meter.{played_faults, side_faults, section_meter, measures_in, side_count, section_count}
use Rattle.songcode.proofs.ListLaws.{append_is_nil}
use Rattle.songcode.proofs.SectionPlays.{meter_some, pass_of}
use Rattle.settings.specs.Cuts.{cut_is, CutFits}
use Rattle.player.specs.Texts.{row_words}
use Rattle.player.specs.Walks.{row_of}
use Rattle.player.proofs.SectionLaws.{section_beats}
use Rattle.player.proofs.SectionMeaning.{rows_length, section_words_lem}
use Rattle.player.proofs.ShortLaws.{short_row}
use Rattle.sections.specs.declared.values.Modifiers.{Modifiers}
use Rattle.laying.specs.declared.texts.Texts.{Texts}
use Rattle.laying.specs.Scores.{TextsAre}
use Rattle.judging.specs.Lengths.{cut_or_none}
use Rattle.judging.specs.Sums.{row_of_texts, TextsWithin}
use Rattle.judging.proofs.CarriedLaws.{carried, carried_side, even_text}
use Rattle.judging.proofs.ArrangedLaws.{pass_filled, side_filled, kept_pass}
use Rattle.judging.proofs.CountLaws.{played_length}
use Rattle.judging.proofs.CutLaws.{cut_said_lem, cut_fits}
use Rattle.songcode.proofs.MeterAgree.{length_side}

-- A section whose texts stand in the buffer.
module _ (s : Song) (x : Section) (ws : List ℕ) (t : Texts) (m : Modifiers) (h : TextsAre s.definitions x ws t)
    (again : m.repeat ≡ repeats x.modifiers) where
  pub texts_play : m.front ≡ cut_is x.modifiers.cut_start → m.back ≡ cut_is x.modifiers.cut_end → section_meter s x ≡ []
      → row_of_texts ws (time_of s x) t m ≡ row_words (played s x)
  unfolding row_of_texts played section_meter
  texts_play f b e =
      let n = time_of s x in
      let ms = x.modifiers in
      let o = pattern_items s.definitions x.pattern in
      let lead = ms.before in
      let tail = ms.after in
      let p = append_is_nil (played_faults n x.header o ++ side_faults n lead) (side_faults n tail) e in
      let q = append_is_nil (played_faults n x.header o) (side_faults n lead) p.0 in
      let some_beat = meter_some s x in
      let w = section_words_lem ms (side_measures n lead) (pass_of n o) (side_measures n tail) (side_filled n lead some_beat q.1)
      (pass_filled n x.header o some_beat q.0) (side_filled n tail some_beat p.1) in
      rw (
        again,
        f,
        b,
        cut_said_lem ms.cut_start,
        cut_said_lem ms.cut_end,
        carried_side ws n t.lead lead h.lead,
        carried ws n t.pattern o h.pattern,
        carried_side ws n t.tail tail h.tail,
        ← (kept_pass n ms o),
      ) w

  -- Its measures before cuts are those that stage 5 counts.
  lead_length : (n : ℕ) → length (row_of n ws t.lead.at) ≡ side_count x.modifiers.before
  lead_length n =
      rw (carried_side ws n t.lead x.modifiers.before h.lead)
      (rows_length _ ∙ length_side n x.modifiers.before)

  tail_length : (n : ℕ) → length (row_of n ws t.tail.at) ≡ side_count x.modifiers.after
  tail_length n =
      rw (carried_side ws n t.tail x.modifiers.after h.tail)
      (rows_length _ ∙ length_side n x.modifiers.after)

  pattern_length_lem : (n : ℕ) → length (times m.repeat (row_of n ws t.pattern.at))
      ≡ repeats x.modifiers * measures_in (pattern_items s.definitions x.pattern)
  pattern_length_lem n =
      rw again (played_length ws t.pattern (pattern_items s.definitions x.pattern) n (repeats x.modifiers)
      h.pattern)

  pub texts_within : (n base sofar : ℕ) → 1 ≤ n → n ≤ 32 → CutFits m.front → sofar + section_count s x ≤ 65535 → base ≤ 32 * sofar → TextsWithin ws n t m base
  unfolding section_count
  texts_within n base sofar some few c long b =
      let l = lead_length n in
      let p = pattern_length_lem n in
      let q = tail_length n in
      record {
        countable =
            record {
              meter = few;
              cuts = cut_fits _ c;
              measures = omega arith;
              even = even_text ws n t.pattern (pattern_items s.definitions x.pattern) h.pattern some few;
            };
        room = omega arith;
      }

  pub texts_beats : (n : ℕ) → n ≤ 32 → total (row_of_texts ws n t m) ≤ 32 * section_count s x
  unfolding row_of_texts section_count
  texts_beats n few =
      let l = lead_length n in
      let p = pattern_length_lem n in
      let q = tail_length n in
      let a = section_beats (cut_or_none m.front) (cut_or_none m.back) m.repeat (row_of n ws t.lead.at)
      (row_of n ws t.pattern.at) (row_of n ws t.tail.at)
      (short_row n ws few t.lead.at) (short_row n ws few t.pattern.at) (short_row n ws few t.tail.at) in
      omega arith
