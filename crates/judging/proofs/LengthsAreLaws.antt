-- Stage 5 from section to section, beside stage 4: what is found so far is the stage's answer where stage 4 complains of nothing.
use mathlib.Core.Option.{get_or}
use Prim.Native.Nat.{ℕ, ◌+◌, ◌≤◌, ◌<◌}
use mathlib.Core.Path.{◌≡◌, refl}
use mathlib.Core.List.{List, []}
use native.Mathlib.Omega.{arith}
use lib.Dec.{ltb}
use lib.ListN.{length}
use borrow.Author.Tests.{ltb-true, ltb-false}
use Rattle.songcode.specs.Lists.{provided◌then◌else◌}
use Rattle.songcode.specs.Complaints.{earliest}
use Rattle.songcode.specs.Answer.Playing.{time_among}
use Rattle.songcode.specs.Answer.Meter.{meter_faults, length_faults}
use Rattle.songcode.specs.Answer.Answer.{song_of}
use Rattle.songcode.proofs.ListLaws.{by_cases}
use Rattle.refusals.specs.declared.Refusal.{Refusal}
use Rattle.std.specs.Prelude.{Result, Ok, Err, Some, IfOk}
use Rattle.std.specs.Result.{result_err}
use Rattle.refusals.specs.Refusals.{told}
use Rattle.sections.specs.declared.blocks.Place.{Place}
use Rattle.sections.specs.declared.values.Modifiers.{Modifiers}
use Rattle.sections.specs.Onward.{Onward}
use Rattle.laying.specs.declared.texts.Texts.{Texts}
use Rattle.laying.specs.declared.texts.Opened.{Opened}
use Rattle.laying.specs.Scores.{Begins, Opens}
use Rattle.laying.specs.Rows.{meter_of}
use Rattle.judging.specs.Lengths.{count_of_texts, cut_away, length_fault, with_lengths}
use Rattle.judging.proofs.OpenedLaws.{Measured, measured_start, measured_end, opened_passes, opened_cut, opened_on}

-- Nothing is refused of the sections before the place, which have so many measures; or the first refusal is found.
unfoldable pub LengthsAre : List ℕ → Place → Result ℕ Refusal → Type 0
LengthsAre s p (Ok k) = (k ≤ 65535) × (meter_faults (song_of s) ≡ [] → Measured s p k)
LengthsAre s p (Err e) = meter_faults (song_of s) ≡ [] → told (Some e) ≡ earliest (length_faults (song_of s) 0 (song_of s).sections)

pub lengths_start : (s : List ℕ) (p : Place) → Begins s p → LengthsAre s p (Ok 0)
unfolding LengthsAre
lengths_start s p b = (omega arith, measured_start s p b)

pub lengths_small : (s : List ℕ) (p : Place) (x : Result ℕ Refusal) → LengthsAre s p x → IfOk x (λ k. k ≤ 65535)
unfolding LengthsAre
lengths_small s p (Ok k) w = w.0
lengths_small s p (Err e) w = tt

pub lengths_end : (s : List ℕ) (p : Place) (x : Result ℕ Refusal) → length s ≤ p.at → LengthsAre s p x → meter_faults (song_of s) ≡ []
    → told (result_err x) ≡ earliest (length_faults (song_of s) 0 (song_of s).sections)
unfolding LengthsAre told
lengths_end s p (Ok k) h w e = measured_end s p k h (w.1 e)
lengths_end s p (Err q) h w e = w e

ok_err : {X : Type 0} {e : Refusal} {k : ℕ} → Err e ≡ Ok k → X
ok_err h = let z : ◌≡◌ {A = ℕ} 0 1 = cc in absurd (let y : ⊥ = omega arith in y)

same_ok : {i k : ℕ} → ◌≡◌ {A = Result ℕ Refusal} (Ok i) (Ok k) → k ≡ i
same_ok h = cc

-- Where nothing is refused up to a section's end, nothing was before it, and its measures are added.
pub lengths_added : (ws : List ℕ) (n header : ℕ) (m : Modifiers) (t : Texts) (x : Result ℕ Refusal) {k : ℕ} → with_lengths ws n header m t x ≡ Ok k
    → (j : ℕ) × (x ≡ Ok j) × (k ≡ j + count_of_texts m t)
unfolding with_lengths length_fault provided◌then◌else◌
lengths_added ws n header m t (Err e) h = ok_err h
lengths_added ws n header m t (Ok j) {k} h = (
  j,
  refl,
  by_cases (ltb 65535 (j + count_of_texts m t))
      (λ e. ok_err (rw e at h))
      (λ e. by_cases (cut_away ws n m t) (λ c. ok_err (rw (e, c) at h)) (λ c. same_ok (rw (e, c) at h))),
)

-- One more section is opened.
module _ (s ws : List ℕ) (p : Place) (r : Opened) (w : Opens s p ws r) {time : ℕ}
    (t : time ≡ get_or (time_among (song_of s).keys) 0) (o : Onward s p) (inside : p.at < length s) where
  abbrev m : Modifiers
  m = r.section.modifiers

  abbrev n : ℕ
  n = meter_of r.section.keys.time time

  abbrev all : ℕ → ℕ
  all k = k + count_of_texts m r.texts

  fault_next : (k : ℕ) → k ≤ 65535 → (meter_faults (song_of s) ≡ [] → Measured s p k)
      → LengthsAre s r.next (length_fault ws n r.section.header m r.texts (all k))
  unfolding LengthsAre length_fault provided◌then◌else◌
  fault_next k small measured =
      by_cases (ltb 65535 (all k))
      (λ e. rw e (λ f. opened_passes s ws p r w t o inside k small (measured f) (ltb-true _ _ e)))
      (λ e.
      let few = ltb-false 65535 (all k) e in
      by_cases (cut_away ws n m r.texts)
      (λ c. rw (e, c) (λ f. opened_cut s ws p r w t o inside k small (measured f) few c))
      (λ c. rw (e, c) (few, (λ f. opened_on s ws p r w t o inside k small (measured f) few c))))

  pub lengths_next : (x : Result ℕ Refusal) → LengthsAre s p x → LengthsAre s r.next (with_lengths ws n r.section.header m r.texts x)
  unfolding LengthsAre with_lengths
  lengths_next (Ok k) a = fault_next k a.0 a.1
  lengths_next (Err e) a = a
