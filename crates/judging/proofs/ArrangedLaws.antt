-- An arrangement that has the texts, repeats and cuts of a section plays what the definitions say of it, and few enough measures for the tables.
use Prim.Native.Nat.{ℕ, ◌+◌, ◌*◌, ◌≤◌}
use mathlib.Core.Path.{◌≡◌, refl, ap, ◌∙◌}
use mathlib.Core.List.{List, [], ◌∷◌, ◌++◌}
use mathlib.Core.Option.{Option, none, some}
use native.Mathlib.Omega.{arith}
use lib.ListN.{length}
use Rattle.songcode.specs.Lists.{times}
use Rattle.songcode.specs.Song as song
use Rattle.songcode.specs.Song.{Items, Section, Song, Side, Beat}
use Rattle.songcode.specs.Answer.References.{pattern_items}
use Rattle.songcode.specs.Answer.Playing.{repeats, cut_row, measures_of}
use Rattle.songcode.specs.Answer.Playing.{side_measures, kept_measures, time_of, played}
use Rattle.songcode.specs.Description.Performance.{total}
use Rattle.songcode.specs.Answer.Meter.{row_faults, played_faults, side_faults, section_meter, measures_in, side_count, section_count}
use Rattle.songcode.specs.EitherOrder.{Filled}
use Rattle.songcode.proofs.ListLaws.{append_is_nil, times_length}
use Rattle.songcode.proofs.RowLaws.{filled_items}
use Rattle.songcode.proofs.SectionPlays.{meter_some, pass_of}
use Rattle.songcode.proofs.MeterAgree.{length_side, length_pass}
use Rattle.score.specs.Even.{even_measures}
use Rattle.player.specs.declared.playing.Arrangement.{Arrangement}
use Rattle.player.specs.Texts.{row_words}
use Rattle.player.specs.Walks.{row_of}
use Rattle.player.specs.Windows.{cut_said}
use Rattle.player.specs.Arrangements.{repeated_row, arranged_row, PlaysWithin}
use Rattle.player.proofs.SectionLaws.{section_beats}
use Rattle.player.proofs.SectionMeaning.{rows_length, section_words_lem}
use Rattle.player.proofs.ShortLaws.{short_row}
use Rattle.laying.proofs.MeterLaws.{meter_range}
use Rattle.judging.proofs.CarriedLaws.{even_pass}
use Rattle.judging.proofs.OpenedLaws.{row_fits}
use Rattle.judging.proofs.PlayedLaws.{cut_short}

-- The arrangement of a section: its texts stand in the row.
pub record Arranges (s : Song) (x : Section) (ws : List ℕ) (a : Arrangement) : Type 0 where
  pub meter : a.n ≡ time_of s x
  pub repeat : a.repeat ≡ repeats x.modifiers
  pub front : a.front ≡ cut_said x.modifiers.cut_start
  pub back : a.back ≡ cut_said x.modifiers.cut_end
  pub few : a.front.beats.0 ≤ 9999
  pub even : a.even ≡ even_measures a.n (pattern_items s.definitions x.pattern)
  pub lead : row_of a.n ws a.lead ≡ row_words (side_measures a.n x.modifiers.before)
  pub pattern : row_of a.n ws a.pattern ≡ row_words (pass_of a.n (pattern_items s.definitions x.pattern))
  pub tail : row_of a.n ws a.tail ≡ row_words (side_measures a.n x.modifiers.after)

-- Every measure of a text that stage 4 passes has a beat.
row_filled : (n l : ℕ) (r : Items) → 1 ≤ n → row_faults n l r ≡ [] → Filled (measures_of n none r)
row_filled n l r h e = filled_items n none r h (row_fits n l r e)

pub pass_filled : (n l : ℕ) (o : Option Items) → 1 ≤ n → played_faults n l o ≡ [] → Filled (pass_of n o)
unfolding played_faults pass_of Filled
pass_filled n l none h e = tt
pass_filled n l (some r) h e = row_filled n l r h e

pub side_filled : (n : ℕ) (o : Option Side) → 1 ≤ n → side_faults n o ≡ [] → Filled (side_measures n o)
unfolding side_faults side_measures Filled
side_filled n none h e = tt
side_filled n (some x) h e = row_filled n x.line x.items h e

-- An empty pattern is cut to nothing.
no_length : {A : Type 0} (xs : List A) → length xs ≤ 0 → xs ≡ []
no_length [] h = refl
no_length (x ∷ xs) h = absurd (omega arith)

pub kept_pass : (n : ℕ) (ms : song.Modifiers) (o : Option Items) → cut_row ms (times (repeats ms) (pass_of n o)) ≡ kept_measures n ms o
unfolding pass_of kept_measures
kept_pass n ms none =
    let row : List (List Beat) = [] in
    let a = cut_short ms (times (repeats ms) row) in
    let b : length (times (repeats ms) row) ≡ 0 = times_length (repeats ms) row ∙ omega arith in
    no_length (cut_row ms (times (repeats ms) row)) (omega arith)
kept_pass n ms (some r) = refl

module _ {s : Song} {x : Section} {ws : List ℕ} {a : Arrangement} (h : Arranges s x ws a) where
  pub arranged_plays : section_meter s x ≡ [] → arranged_row ws a ≡ row_words (played s x)
  unfolding played section_meter
  arranged_plays e =
      let n = time_of s x in
      let ms = x.modifiers in
      let o = pattern_items s.definitions x.pattern in
      let lead = ms.before in
      let tail = ms.after in
      let p = append_is_nil (played_faults n x.header o ++ side_faults n lead) (side_faults n tail) e in
      let q = append_is_nil (played_faults n x.header o) (side_faults n lead) p.0 in
      let some_beat = meter_some s x in
      let w = section_words_lem ms (side_measures n lead) (pass_of n o) (side_measures n tail) (side_filled n lead some_beat q.1)
      (pass_filled n x.header o some_beat q.0) (side_filled n tail some_beat p.1) in
      rw (h.repeat, h.front, h.back, h.lead, h.pattern, h.tail, h.meter, ← (kept_pass n ms o)) w

  -- Its measures before cuts are those that stage 5 counts.
  lead_length : length (row_of a.n ws a.lead) ≡ side_count x.modifiers.before
  lead_length = rw h.lead (rows_length _ ∙ length_side a.n x.modifiers.before)

  tail_length : length (row_of a.n ws a.tail) ≡ side_count x.modifiers.after
  tail_length = rw h.tail (rows_length _ ∙ length_side a.n x.modifiers.after)

  pattern_length_lem : length (repeated_row ws a) ≡ repeats x.modifiers * measures_in (pattern_items s.definitions x.pattern)
  pattern_length_lem =
      let o = pattern_items s.definitions x.pattern in
      let one : length (row_of a.n ws a.pattern) ≡ measures_in o = ap length h.pattern ∙ rows_length (pass_of a.n o) ∙ length_pass a.n o in
      times_length a.repeat (row_of a.n ws a.pattern) ∙ rw (one, h.repeat)

  few_beats : a.n ≤ 32
  few_beats =
      let m = h.meter in
      let r = (meter_range s x).1 in
      omega arith

  pub arranged_within : (base sofar : ℕ) → sofar + section_count s x ≤ 65535 → base ≤ 32 * sofar → PlaysWithin ws a base
  unfolding section_count
  arranged_within base sofar long b =
      let l = lead_length in
      let p = pattern_length_lem in
      let q = tail_length in
      let even = even_pass a.n (pattern_items s.definitions x.pattern) in
      record {
        countable =
            record {
              meter = few_beats;
              cuts = h.few;
              measures = omega arith;
              even = λ z. rw (h.even, h.pattern) (even (λ y. z (h.even ∙ y)));
            };
        room = omega arith;
      }

  pub arranged_beats : total (arranged_row ws a) ≤ 32 * section_count s x
  unfolding section_count
  arranged_beats =
      let l = lead_length in
      let p = pattern_length_lem in
      let q = tail_length in
      let f = short_row a.n ws few_beats in
      let k = section_beats a.front a.back a.repeat (row_of a.n ws a.lead) (row_of a.n ws a.pattern) (row_of a.n ws a.tail)
      (f a.lead) (f a.pattern) (f a.tail) in
      omega arith
