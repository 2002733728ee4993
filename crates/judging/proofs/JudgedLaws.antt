-- Stage 4 from section to section: the least complaint of the sections so far, and of those from a place on.
use mathlib.Core.Option.{get_or}
use mathlib.Core.Option as option
use Prim.Native.Nat.{ℕ, ◌≤◌, min}
use mathlib.Core.Path.{◌≡◌, refl, sym, ap, ◌∙◌}
use mathlib.Core.List.{List, [], ◌∷◌, ◌++◌, append_assoc, append-nil, flat_map}
use lib.ListN.{length}
use Rattle.songcode.specs.Lists.{provided◌then◌else◌}
use Rattle.songcode.specs.Complaints.{Complaint}
use Rattle.songcode.specs.Song.{Section}
use Rattle.songcode.specs.Answer.Playing.{time_among}
use Rattle.songcode.specs.Answer.Meter.{section_meter, meter_faults}
use Rattle.songcode.specs.Answer.Answer.{song_of}
use Rattle.songcode.proofs.ListLaws.{Each, each_append, append_is_nil}
use Rattle.refusals.specs.Ranks.{none, least, refusal_at}
use Rattle.refusals.proofs.RankLaws.{least_append, Ranked, least_clear}
use Rattle.sections.specs.declared.blocks.Place.{Place}
use Rattle.sections.specs.Onward.{sections_from, section_at}
use Rattle.sections.proofs.MeetLaws.{sections_over}
use Rattle.laying.specs.declared.texts.Opened.{Opened}
use Rattle.laying.specs.Scores.{Begins, Opens}
use Rattle.laying.specs.Rows.{meter_of}
use Rattle.judging.specs.Meters.{meter_fault}
use Rattle.laying.proofs.MeterLaws.{meter_is, meter_range}
use Rattle.judging.proofs.FaultLaws.{ranked_section, section_fault_lem}

-- The complaints so far, the least of which is known, and those of the sections from the place on are all of the stage.
unfoldable pub Judged : List ℕ → Place → ℕ → Type 0
Judged s p best =
    (done : List Complaint) × (best ≡ least done) × Each Ranked done
    × (done ++ flat_map (section_meter (song_of s)) (sections_from s p) ≡ meter_faults (song_of s))

pub judged_start : (s : List ℕ) (p : Place) → Begins s p → Judged s p none
unfolding Judged Each least meter_faults
judged_start s p b = ([], refl, tt, ap (flat_map (section_meter (song_of s))) b.sections)

module _ (s : List ℕ) (p : Place) (best f : ℕ) (e : f ≡ least (section_meter (song_of s) (section_at s p))) (w : Judged s p best) where
  abbrev here : List Complaint
  here = section_meter (song_of s) (section_at s p)

  pub judged_next : (q : Place) → sections_from s p ≡ section_at s p ∷ sections_from s q → Judged s q (min best f)
  unfolding Judged flat_map
  judged_next q first =
      let song = song_of s in
      let done = w.0 in (
        done ++ here,
        rw (w.1, e) (sym (least_append done here)),
        each_append Ranked done here w.2 (ranked_section song (section_at s p)),
        append_assoc done here (flat_map (section_meter song) (sections_from s q))
            ∙ ap (λ (xs : List Section). done ++ flat_map (section_meter song) xs) (sym first) ∙ w.3,
      )

  -- Where nothing is complained of up to a section's end, nothing was before it, and nothing is of it.
  pub judged_clear : refusal_at (min best f) ≡ option.none → (refusal_at best ≡ option.none) × (here ≡ [])
  unfolding Judged least refusal_at provided◌then◌else◌
  judged_clear z =
      let done = w.0 in
      let same : least (done ++ here) ≡ min best f = least_append done here ∙ rw (w.1, e) refl in
      let all = least_clear (done ++ here) (each_append Ranked done here w.2 (ranked_section (song_of s) (section_at s p)))
      (ap refusal_at same ∙ z) in
      let parts = append_is_nil done here all in
      (rw (w.1, parts.0) refl, parts.1)

pub judged_end : (s : List ℕ) (p : Place) (best : ℕ) → length s ≤ p.at → Judged s p best → best ≡ least (meter_faults (song_of s))
unfolding Judged flat_map
judged_end s p best h w =
    let done = w.0 in
    let over = ap (λ (xs : List Section). done ++ flat_map (section_meter (song_of s)) xs) (sections_over s p h) in
    w.1 ∙ ap least (sym (append-nil done) ∙ sym over ∙ w.3)

-- A section that is opened.
pub opened_fault : (s ws : List ℕ) (p : Place) (r : Opened) {time n : ℕ} {f : ℕ} → Opens s p ws r
    → time ≡ get_or (time_among (song_of s).keys) 0
    → n ≡ meter_of r.section.keys.time time → f ≡ meter_fault r.section.header r.section.modifiers r.texts n → f ≡ least
    (section_meter (song_of s) (section_at s p))
opened_fault s ws p r w e found h =
    let says = w.met.says in
    let x = section_at s p in
    let k = meter_range (song_of s) x in
    h
    ∙ rw (found, says.header, meter_is (song_of s) x says.time e)
    (section_fault_lem (song_of s) x s ws r.section.modifiers r.texts w.texts says.before says.after k.0 k.1)
