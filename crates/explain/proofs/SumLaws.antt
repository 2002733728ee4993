-- From section to section up to the header that a verdict of 17 names: its counts and its measures.
use Prim.Native.Nat.{ℕ, ◌+◌, ◌<◌, ◌≤◌}
use mathlib.Core.Path.{◌≡◌, sym, ap, ◌∙◌, subst}
use mathlib.Core.Logic.{⊎_elim}
use mathlib.Core.List.Memᴰ
use mathlib.Core.List.{List, [], ◌∷◌, flat_map, Memᴰ}
use native.Mathlib.Omega.{arith}
use lib.ListN.{length}
use mathlib.Core.Option.{none, some}
use Rattle.songcode.specs.Complaints.{complaint, earliest}
use Rattle.songcode.specs.Song.{Section}
use Rattle.songcode.specs.Answer.References.{reference_faults}
use Rattle.songcode.specs.Answer.Playing.{played}
use Rattle.songcode.specs.Answer.Meter.{section_meter, meter_faults, section_count, length_faults}
use Rattle.songcode.specs.Answer.Lyrics.{counted}
use Rattle.songcode.specs.Answer.Answer.{song_of}
use Rattle.songcode.proofs.ListLaws.{append_is_nil}
use Rattle.refusals.specs.declared.Refusal.{Refusal}
use Rattle.refusals.specs.Names.{number_of}
use Rattle.refusals.specs.Refusals.{told}
use Rattle.score.specs.Seen.{RowFrom, Sees}
use Rattle.score.specs.Views.{view_by, view_of}
use Rattle.score.proofs.RowLaws.{row_start, row_grows}
use Rattle.score.proofs.ViewLaws.{view_sees, view_next}
use Rattle.player.specs.Arrangements.{arrangement_in}
use Rattle.player.proofs.SectionMeaning.{rows_length}
use Rattle.sections.specs.declared.blocks.Place.{Place}
use Rattle.sections.specs.declared.values.Keys.{Keys}
use Rattle.sections.specs.Onward.{sections_from, section_at, Later}
use Rattle.sections.proofs.MeetLaws.{sections_over}
use Rattle.laying.specs.declared.texts.Opened.{Opened}
use Rattle.laying.specs.Scores.{Begins, RefusedThree, Opens}
use Rattle.laying.specs.Rows.{RoomFor, Lays}
use Rattle.judging.proofs.ArrangedLaws.{Arranges, arranged_plays, arranged_within}
use Rattle.judging.proofs.AheadLaws.{seen_arranges}
use Rattle.judging.proofs.PlayedLaws.{lengths_step}
use Rattle.judging.proofs.RowIsLaws.{RowIs, row_is_next}
use Rattle.judging.specs.declared.counts.SectionCounts.{SectionCounts}
use Rattle.explain.specs.declared.sums.Summed.{Summed}
use Rattle.judging.specs.Counts.{section_counts, Summable}
use Rattle.explain.specs.Sums.{SumsAt}

-- Stages 4 and 5 have nothing against the sections from the place on, behind so many measures.
pub record Unrefused (s : List ℕ) (p : Place) : Type 0 where
  pub sofar : ℕ
  pub few : sofar ≤ 65535
  pub meters : flat_map (section_meter (song_of s)) (sections_from s p) ≡ []
  pub lengths : length_faults (song_of s) sofar (sections_from s p) ≡ []

pub unrefused_start : {s : List ℕ} {p : Place} → Begins s p → meter_faults (song_of s) ≡ [] → length_faults (song_of s) 0 (song_of s).sections ≡ []
    → Unrefused s p
unfolding meter_faults
unrefused_start {s} b e l =
    record {
      sofar = 0;
      few = omega arith;
      meters = ap (flat_map (section_meter (song_of s))) b.sections ∙ e;
      lengths = ap (length_faults (song_of s) 0) b.sections ∙ l;
    }

-- The next section is laid, and played as it stands in the row.
module _ {s old new : List ℕ} {mark at : ℕ} {p : Place} {song : Keys} (r : Opened) (u : Unrefused s p) (i : RowIs s old mark at p)
    (l : Lays s p song at old new r) (same : length new ≡ length old) where
  abbrev here : Section
  here = section_at s p

  here_lengths : (u.sofar + section_count (song_of s) here ≤ 65535)
      × (length_faults (song_of s) (u.sofar + section_count (song_of s) here) (sections_from s r.next) ≡ [])
  here_lengths =
      lengths_step (song_of s) u.sofar here (sections_from s r.next)
      (ap (length_faults (song_of s) u.sofar) (sym l.opens.met.first) ∙ u.lengths) u.few

  here_meters : (section_meter (song_of s) here ≡ []) × (flat_map (section_meter (song_of s)) (sections_from s r.next) ≡ [])
  unfolding flat_map
  here_meters =
      append_is_nil (section_meter (song_of s) here) (flat_map (section_meter (song_of s)) (sections_from s r.next))
      (ap (flat_map (section_meter (song_of s))) (sym l.opens.met.first) ∙ u.meters)

  laid_low : at ≤ 65539
  unfolding RoomFor
  laid_low =
      let a = i.room in
      let z = i.ready.small in
      omega arith

  row : RowFrom (song_of s) new at r.end (here ∷ [])
  unfolding RoomFor
  row =
      let a = laid_low in
      let b = l.room in
      let z = i.ready.small in
      let k = i.room in
      let big = i.kept.room in
      row_grows (song_of s) old new at at r.end [] here (row_start (song_of s) old at (omega arith)) l.words l.end
      (omega arith) (omega arith)

  sees : Sees (song_of s) new here (view_of new at)
  sees = view_sees (song_of s) new at r.end here [] l.fits row

  lyrics_low : (view_of new at).lyrics.to ≤ 1000000
  unfolding view_of view_by
  lyrics_low =
      let next = view_next (song_of s) new at r.end here [] l.fits row in
      let size = next.size in
      let few = next.few in
      omega arith

  arranges : Arranges (song_of s) here new (arrangement_in new (view_of new at))
  arranges = seen_arranges (row_is_next r i l same).ready here (view_of new at) l.fits sees

  -- It is summed up as the definitions say.
  pub laid_summable : Summable s new at here
  laid_summable =
      let a = laid_low in
      record {
        low = omega arith;
        within = arranged_within arranges 0 u.sofar here_lengths.0 (omega arith);
        measures = ap length (arranged_plays arranges here_meters.0) ∙ rows_length (played (song_of s) here);
        words = sees.lyrics;
        ends = lyrics_low;
        fits = l.fits.lyrics;
        run = r.section.lyrics;
        lyrics = l.opens.met.says.lyrics;
      }

  pub unrefused_next : Unrefused s r.next
  unrefused_next =
      record { sofar = u.sofar + section_count (song_of s) here; few = here_lengths.0; meters = here_meters.1; lengths = here_lengths.1 }

-- Sections with this header stand from the place on.
abbrev pub Ahead : List ℕ → ℕ → Place → Type 0
Ahead s line p = (y : Section) → Memᴰ y (song_of s).sections → y.header ≡ line → Memᴰ y (sections_from s p)

later_header : (n : ℕ) (xs : List Section) → Later n xs → (y : Section) → Memᴰ y xs → n < y.header
unfolding Later
later_header n [] h y m = absurd (Memᴰ.not-nil m)
later_header n (x ∷ xs) h y m =
    ⊎_elim (λ e. subst (λ (z : Section). n < z.header) (sym e) h.0) (λ i. later_header n xs h.1 y i) (Memᴰ.cases_cons m)

module _ {s vs : List ℕ} {p : Place} (x : Opened) (o : Opens s p vs x) (line : ℕ) (ahead : Ahead s line p) where
  here_or : (y : Section) → Memᴰ y (sections_from s p) → {X : Type 0} → (y ≡ section_at s p → X) → (Memᴰ y (sections_from s x.next) → X) → X
  here_or y m f g = ⊎_elim f g (Memᴰ.cases_cons (subst (λ (ys : List Section). Memᴰ y ys) o.met.first m))

  header_is : x.section.header ≡ (section_at s p).header
  header_is = o.met.says.header

  pub sums_found : x.section.header ≡ line → (c : SectionCounts) → c ≡ section_counts (song_of s) (section_at s p)
      → SumsAt s line (record { sum = c.sum; measures = c.measures })
  unfolding section_counts
  sums_found e c f =
      record {
        is = λ y m h.
            here_or y (ahead y m h)
            (λ z. (
              ap (λ (b : SectionCounts). b.sum) f ∙ ap (λ (w : Section). counted w.lyrics) (sym z),
              ap (λ (b : SectionCounts). b.measures) f ∙ ap (λ (w : Section). length (played (song_of s) w)) (sym z),
            ))
            (λ i.
            let k = later_header (section_at s p).header (sections_from s x.next) o.met.later y i in
            let j = header_is in
            let z : ⊥ = omega arith in
            absurd z);
      }

  pub still_ahead : (x.section.header ≡ line → ⊥) → Ahead s line x.next
  still_ahead n y m h =
      here_or y (ahead y m h) (λ z. absurd (n (header_is ∙ ap (λ (w : Section). w.header) (sym z) ∙ h))) (λ i. i)

pub none_ahead : (s : List ℕ) (line : ℕ) (p : Place) → length s ≤ p.at → Ahead s line p → (r : Summed) → SumsAt s line r
none_ahead s line p h ahead r =
    record { is = λ y m e. absurd (Memᴰ.not-nil (subst (λ (ys : List Section). Memᴰ y ys) (sections_over s p h) (ahead y m e))) }

-- Where stage 3 has nothing against the definitions it refuses none.
pub not_refused : (s : List ℕ) (e : Refusal) → RefusedThree s e → reference_faults (song_of s) ≡ [] → ⊥
unfolding earliest told
not_refused s e h k =
    let z : some (complaint (number_of e.why) e.line) ≡ none = rw k at h in
    let w : ◌≡◌ {A = ℕ} 0 1 = cc in
    omega arith
