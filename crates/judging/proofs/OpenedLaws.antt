-- Stage 5 of a section that is opened: its measures, its cuts, and what is left to the sections behind it.
use Prim.Native.Nat.{ℕ, ◌+◌, ◌*◌, ◌<◌, ◌≤◌}
use mathlib.Core.Path.{◌≡◌, sym, ap, ◌∙◌, subst}
use mathlib.Core.List.{List, [], ◌∷◌, flat_map}
use mathlib.Core.Logic.{⊎_elim}
use mathlib.Core.Bool.{true, false, not}
use mathlib.Core.Option.{none, some, get_or}
use native.Mathlib.Omega.{arith}
use lib.ListN.{length}
use borrow.Author.Tests.{not-false}
use Rattle.songcode.specs.Complaints.{complain_if, earliest}
use Rattle.songcode.specs.Song.{Items, Section, Song}
use Rattle.songcode.specs.Answer.References.{pattern_items}
use Rattle.songcode.specs.Answer.Playing.{time_among, time_of}
use Rattle.songcode.specs.Answer.Meter.{all_fit, stray, row_faults, played_faults, side_faults, section_meter, meter_faults, section_count, measures_in}
use Rattle.songcode.specs.Answer.Meter.{cut_faults}
use Rattle.songcode.specs.Answer.Meter.{length_faults}
use Rattle.songcode.specs.Answer.Answer.{song_of}
use Rattle.songcode.proofs.ListLaws.{append_is_nil, complain_if_nil}
use Rattle.std.specs.Prelude.{Some}
use Rattle.refusals.specs.declared.names.Why.TheVariants.{SongTooLong, NothingLeft}
use Rattle.refusals.specs.Refusals.{told}
use Rattle.sections.specs.declared.blocks.Place.{Place}
use Rattle.sections.specs.declared.values.Modifiers.{Modifiers}
use Rattle.sections.specs.Onward.{sections_from, Onward, section_at}
use Rattle.laying.specs.declared.texts.Opened.{Opened}
use Rattle.laying.specs.Scores.{Begins, Opens, side_items}
use Rattle.laying.specs.Rows.{meter_of}
use Rattle.judging.specs.Lengths.{count_of_texts, cut_away, Measurable}
use Rattle.laying.proofs.MeterLaws.{meter_is, meter_range}
use Rattle.sections.proofs.MeetLaws.{sections_over}
use Rattle.judging.proofs.CarriedLaws.{even_text}
use Rattle.judging.proofs.CountLaws.{Counted, carried_fits, played_length, section_counted, pattern_within}
use Rattle.judging.proofs.ModifierLaws.{modified_is}
use Rattle.judging.proofs.CutLaws.{cut_away_is}
use Rattle.judging.proofs.LengthLaws.{length_passes, length_cut, length_on}

-- So many measures were counted before the place; what the sections from there on are refused for is what the stage is, and stage 4 refuses none of them.
unfoldable pub Measured : List ℕ → Place → ℕ → Type 0
Measured s p k =
    (earliest (length_faults (song_of s) k (sections_from s p)) ≡ earliest (length_faults (song_of s) 0 (song_of s).sections))
    × (flat_map (section_meter (song_of s)) (sections_from s p) ≡ [])

pub measured_start : (s : List ℕ) (p : Place) → Begins s p → meter_faults (song_of s) ≡ [] → Measured s p 0
unfolding Measured meter_faults
measured_start s p b e = (
  ap (λ (xs : List Section). earliest (length_faults (song_of s) 0 xs)) b.sections,
  ap (flat_map (section_meter (song_of s))) b.sections ∙ e,
)

pub measured_end : (s : List ℕ) (p : Place) (k : ℕ) → length s ≤ p.at → Measured s p k
    → none ≡ earliest (length_faults (song_of s) 0 (song_of s).sections)
unfolding Measured length_faults earliest
measured_end s p k h w = ap (λ (xs : List Section). earliest (length_faults (song_of s) k xs)) (sym (sections_over s p h)) ∙ w.0

-- A pattern of which stage 4 complains in no way.
pub row_fits : (n line : ℕ) (r : Items) → row_faults n line r ≡ [] → all_fit n r ≡ true
unfolding row_faults
row_fits n line r e =
    not-false (all_fit n r) (complain_if_nil _ 12 line (append_is_nil (complain_if (not (all_fit n r)) 12 line)
    (complain_if (stray none r) 13 line) e).0)

pub pattern_fits : (song : Song) (x : Section) → section_meter song x ≡ [] → (r : Items)
    → pattern_items song.definitions x.pattern ≡ some r → all_fit (time_of song x) r ≡ true
unfolding section_meter played_faults
pattern_fits song x e r h =
    let n = time_of song x in
    let a = (append_is_nil _ (side_faults n x.modifiers.after) e).0 in
    let b = (append_is_nil (played_faults n x.header (pattern_items song.definitions x.pattern)) (side_faults n x.modifiers.before) a).0 in
    row_fits n x.header r (ap (played_faults n x.header) (sym h) ∙ b)

module _ (s ws : List ℕ) (p : Place) (r : Opened) (w : Opens s p ws r) where
  abbrev song : Song
  song = song_of s

  abbrev x : Section
  x = section_at s p

  abbrev m : Modifiers
  m = r.section.modifiers

  counted : Counted (count_of_texts m r.texts) (section_count song x)
  counted = section_counted song x ws m r.texts w.texts w.met.says.repeat w.met.read.modifiers.repeat_fits.0

  -- Where the measures are few enough, all are counted.
  pub all_counted : (k : ℕ) → k + count_of_texts m r.texts ≤ 65535 → count_of_texts m r.texts ≡ section_count song x
  all_counted k h = ⊎_elim (λ e. e) (λ e. let q = e.0 in
      let z : ⊥ = omega arith in absurd z) counted

  too_many : (k : ℕ) → 65535 < k + count_of_texts m r.texts → 65535 < k + section_count song x
  too_many k h = ⊎_elim (λ e. omega arith) (λ e. let q = e.1 in omega arith) counted

  module _ {time : ℕ} (t : time ≡ get_or (time_among (song_of s).keys) 0) where
    abbrev n : ℕ
    n = meter_of r.section.keys.time time

    n_is : n ≡ time_of song x
    n_is = meter_is song x w.met.says.time t

    -- What counting its measures and looking at its cuts asks for.
    pub opened_measurable : Measurable ws n m r.texts
    opened_measurable =
        record {
          meter = subst (λ (j : ℕ). j ≤ 32) (sym n_is) (meter_range song x).1;
          cuts = w.met.read.modifiers.front_fits;
          repeat = w.met.read.modifiers.repeat_fits.1;
          lead = carried_fits ws r.texts.lead (side_items x.modifiers.before) w.texts.lead;
          pattern = carried_fits ws r.texts.pattern (pattern_items song.definitions x.pattern) w.texts.pattern;
          tail = carried_fits ws r.texts.tail (side_items x.modifiers.after) w.texts.tail;
          played = λ h.
              let e = all_counted 0 (omega arith) in
              let l = played_length ws r.texts.pattern (pattern_items song.definitions x.pattern) n
              m.repeat w.texts.pattern in
              let often = ap (λ (j : ℕ). j * measures_in (pattern_items song.definitions x.pattern)) w.met.says.repeat in
              let within = pattern_within song x in
              omega arith;
          even =
              let range = meter_range song x in
              even_text ws n r.texts.pattern (pattern_items song.definitions x.pattern) w.texts.pattern
              (subst (λ (j : ℕ). 1 ≤ j) (sym n_is) range.0) (subst (λ (j : ℕ). j ≤ 32) (sym n_is) range.1);
        }

    module _ (o : Onward s p) (inside : p.at < length s) (k : ℕ) (small : k ≤ 65535) (measured : Measured s p k) where
      metered : (section_meter song x ≡ []) × (flat_map (section_meter song) (sections_from s r.next) ≡ [])
      unfolding Measured flat_map
      metered =
          append_is_nil (section_meter song x) (flat_map (section_meter song) (sections_from s r.next))
          (ap (flat_map (section_meter song)) (sym w.met.first) ∙ measured.1)

      cuts : cut_faults (time_of song x) x.header x.modifiers
          (pattern_items song.definitions x.pattern) ≡ complain_if (cut_away ws n m r.texts) 15 x.header
      cuts =
          let says = w.met.says in
          let read = w.met.read.modifiers in
          rw n_is
          (cut_away_is ws (time_of song x) x.header x.modifiers m r.texts says.repeat read.repeat_fits.0 says.front says.back
          (pattern_items song.definitions x.pattern) w.texts.pattern (meter_range song x).0 (pattern_fits song x metered.0)
          (modified_is s p o inside r.section read says))

      whole : earliest (length_faults song k (x ∷ sections_from s r.next)) ≡ earliest (length_faults song 0 song.sections)
      unfolding Measured
      whole = ap (λ (xs : List Section). earliest (length_faults song k xs)) (sym w.met.first) ∙ measured.0

      pub opened_passes : 65535 < k + count_of_texts m r.texts
          → told (Some (record { why = SongTooLong; line = r.section.header })) ≡ earliest (length_faults song 0 song.sections)
      opened_passes h =
          rw w.met.says.header
          (sym (length_passes song k x (sections_from s r.next) (cut_away ws n m r.texts) small cuts (too_many k h) w.met.later) ∙ whole)

      pub opened_cut : k + count_of_texts m r.texts ≤ 65535 → cut_away ws n m r.texts ≡ true
          → told (Some (record { why = NothingLeft; line = r.section.header })) ≡ earliest (length_faults song 0 song.sections)
      opened_cut h e =
          let c = all_counted k h in
          rw w.met.says.header
          (sym (length_cut song k x (sections_from s r.next) (cut_away ws n m r.texts) small cuts (omega arith) e w.met.later) ∙ whole)

      pub opened_on : k + count_of_texts m r.texts ≤ 65535 → cut_away ws n m r.texts ≡ false → Measured s r.next (k + count_of_texts m r.texts)
      unfolding Measured
      opened_on h e =
          let c = all_counted k h in (
            rw c (ap earliest
                (sym (length_on song k x (sections_from s r.next) (cut_away ws n m r.texts) small cuts (omega arith) e)) ∙ whole),
            metered.1,
          )
