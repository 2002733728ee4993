-- Stage 7 from section to section: the first section whose lyric lines do not sum to its measures.
use Prim.Native.Nat.{ℕ, ◌≤◌}
use mathlib.Core.Path.{◌≡◌, refl, sym, ap, ◌∙◌}
use mathlib.Core.List.{List, [], ◌∷◌, flat_map}
use mathlib.Core.Bool.{Bool, true, false}
use mathlib.Core.Logic.{◌⊎◌, inl, inr, ⊎_elim}
use mathlib.Core.Option.{some}
use native.Mathlib.Omega.{arith}
use native.Mathlib.Nat.{le_refl}
use lib.ListN.{length}
use borrow.Author.Tests.{eq-eqb, ne_eqb}
use Rattle.songcode.specs.Lists.{provided◌then◌else◌, when}
use Rattle.songcode.specs.Complaints.{complaint, complain_if, earliest, earlier}
use Rattle.songcode.specs.Song.{Section, Song}
use Rattle.songcode.specs.Answer.Lyrics.{has_counts, sum_fault, sum_faults}
use Rattle.songcode.specs.Answer.Answer.{song_of}
use Rattle.songcode.proofs.ListLaws.{by_cases, nil_is_not_cons, Each}
use Rattle.refusals.specs.Refusals.{told}
use Rattle.sections.specs.declared.blocks.Place.{Place}
use Rattle.sections.specs.Onward.{Onward, Later, section_at, sections_from}
use Rattle.sections.proofs.MeetLaws.{sections_over}
use Rattle.laying.specs.declared.texts.Opened.{Opened}
use Rattle.laying.specs.Scores.{Begins, Opens}
use Rattle.laying.proofs.ComplaintLaws.{UpTo, first_wins, gather_behind}
use Rattle.laying.proofs.FaultLineLaws.{line_if}
use Rattle.judging.specs.Singing.{off_with, off_fault}
use Rattle.judging.proofs.SumLaws.{off_sum}

fault_line : (s : Song) (x : Section) → Each (λ c. c.line ≡ x.header) (sum_fault s x)
unfolding sum_fault
fault_line s x = line_if (off_sum s x) 17 x.header

module _ (s : Song) (x : Section) (xs : List Section) where
  faults_pass : off_sum s x ≡ false → flat_map (sum_fault s) (x ∷ xs) ≡ flat_map (sum_fault s) xs
  unfolding flat_map sum_fault complain_if when
  faults_pass e = rw e

  faults_stop : off_sum s x ≡ true → Later x.header xs → earliest (flat_map (sum_fault s) (x ∷ xs)) ≡ some (complaint 17 x.header)
  unfolding flat_map sum_fault complain_if when earliest earlier UpTo Each
  faults_stop e l =
      let here = complaint 17 x.header ∷ [] in
      rw e (first_wins x.header here (flat_map (sum_fault s) xs) (le_refl x.header, tt)
      (gather_behind x.header (sum_fault s) (fault_line s) xs l) (λ z. nil_is_not_cons (sym z)))

-- No section before the place is off, and what is left of the stage is all of it; or the first that is off is known.
unfoldable pub OffIs : List ℕ → Place → ℕ → Type 0
OffIs s p off =
    ((off ≡ 0) × (flat_map (sum_fault (song_of s)) (sections_from s p) ≡ flat_map (sum_fault (song_of s)) (song_of s).sections))
    ⊎ ((off ≡ 0 → ⊥) × (earliest (flat_map (sum_fault (song_of s)) (song_of s).sections) ≡ some (complaint 17 off)))

pub off_start : (s : List ℕ) (p : Place) → Begins s p → OffIs s p 0
unfolding OffIs
off_start s p b = inl (refl, ap (flat_map (sum_fault (song_of s))) b.sections)

pub off_next : {s ws : List ℕ} {p : Place} (x : Opened) → Opens s p ws x → Onward s p → (off : ℕ) (b : Bool) → b ≡ off_sum (song_of s) (section_at s p)
    → OffIs s p off → OffIs s x.next (off_with off b x.section.header)
unfolding OffIs off_with provided◌then◌else◌
off_next {s} {ws} {p} x o w off b e =
    ⊎_elim
    (λ a. rw (eq-eqb off 0 a.0) (by_cases b
    (λ t. rw t (inr (
      (λ z. let h = o.met.read.header in
          let n = w.number in
          let q : ⊥ = omega arith in q),
      ap earliest (sym a.1 ∙ ap (flat_map (sum_fault (song_of s))) o.met.first)
          ∙ faults_stop (song_of s) (section_at s p) (sections_from s x.next) (sym e ∙ t) o.met.later
          ∙ ap (λ (k : ℕ). some (complaint 17 k)) (sym o.met.says.header),
    )))
    (λ t. rw t (inl (
      refl,
      sym (faults_pass (song_of s) (section_at s p) (sections_from s x.next) (sym e ∙ t))
          ∙ ap (flat_map (sum_fault (song_of s))) (sym o.met.first) ∙ a.1,
    )))))
    (λ z. rw (ne_eqb off 0 z.0) (inr z))

-- Behind the last section, where it is known whether lines have counts.
pub off_refusal : (s : List ℕ) (p : Place) (off : ℕ) (c : Bool) → length s ≤ p.at → c ≡ has_counts (song_of s) → OffIs s p off
    → told (off_fault c off) ≡ earliest (sum_faults (song_of s))
unfolding OffIs off_fault sum_faults flat_map told earliest provided◌then◌else◌
off_refusal s p off c h e w =
    by_cases (has_counts (song_of s))
    (λ t. rw (e, t) (⊎_elim
    (λ a. rw (eq-eqb off 0 a.0) (ap earliest (sym (sym a.1 ∙ ap (flat_map (sum_fault (song_of s)))
    (sections_over s p h)))))
    (λ a. rw (ne_eqb off 0 a.0) (sym a.1))
    w))
    (λ t. rw (e, t) refl)
