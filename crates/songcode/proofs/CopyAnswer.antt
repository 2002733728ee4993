-- The answer of the call, and every demand on the flat copy.
use Prim.Native.Nat.{ℕ, ◌≤◌}
use mathlib.Core.Path.{◌≡◌, refl, ap, sym, subst, ◌∙◌}
use mathlib.Core.Logic.{◌↔◌}
use mathlib.Core.List.{List, [], ◌∷◌, ◌++◌}
use mathlib.Core.Option.{Option, none, some}
use native.Mathlib.Omega.{arith}
use lib.Dec.{ltb}
use lib.ListN.{length}
use borrow.Author.Tests.{ltb-false, le-ltb}
use Rattle.songcode.specs.Complaints.{Complaint, complaint, verdict}
use Rattle.songcode.specs.Answer.Answer.{song_stages, most_bytes, room_faults, song_of, Room, stages, answer}
use Rattle.songcode.specs.Answer.Answer as Reading
use Rattle.songcode.specs.Answer.Tables.{tables}
use Rattle.songcode.specs.Description.Given.{Given, in_this, in_later}
use Rattle.songcode.specs.Answer.Flat.{flat_copy, copy_by, copy_of, copy_faults, flat_stages, refused, copied, flat_by, flat_answer}
use Rattle.songcode.specs.Description.WrittenFlat.{Copied}
use Rattle.songcode.specs.FlatDemands.{FlatDemands}
use Rattle.songcode.proofs.ListLaws.{none_passes, pass_none, complain_if_nil, nil_complain_if}
use Rattle.songcode.proofs.VerdictAgree.{verdict_given, given_verdict, Silent, verdict_silent, silent_verdict, silent_append, append_silent}
use Rattle.songcode.proofs.AnswerAgree.{refused_exactly}
use Rattle.songcode.proofs.CopiedExactly.{copied_exactly}
use Rattle.songcode.proofs.CopyLength.{pattern_length_lem, length_repeated}
use Rattle.songcode.proofs.FlatChartsProved.{charts_copied}
use Rattle.songcode.proofs.CopyChain.{reads_back, copied_again}

one_copy : (bs copy other : List ℕ) → Copied bs copy → Copied bs other → copy ≡ other
one_copy bs copy other c d =
    let a = (copied_exactly bs copy).1 c in
    let b = (copied_exactly bs other).1 d in
    cc

flat_refused : (lent : ℕ) (bs : List ℕ) (number line : ℕ) → (flat_answer lent bs ≡ refused number line) ↔ Given (flat_stages lent bs) (complaint number line)
unfolding flat_answer flat_by
flat_refused lent bs number line = (
  (λ h. go (verdict (flat_stages lent bs)) refl h),
  (λ g. rw (given_verdict (flat_stages lent bs) (complaint number line) g)),
)
  where
    go : (o : Option Complaint) → verdict (flat_stages lent bs) ≡ o → flat_by o (flat_copy bs) ≡ refused number line
        → Given (flat_stages lent bs) (complaint number line)
    go none e h = let z : ◌≡◌ {A = ℕ} 0 1 = cc in absurd (omega arith)
    go (some c) e h =
        let n : c.number ≡ number = cc in
        let l : c.line ≡ line = cc in
        verdict_given (flat_stages lent bs) (complaint number line) (e ∙ ap (λ x. some (complaint x c.line)) n ∙ ap (λ x. some (complaint number x)) l)

given_front : {ss : List (List Complaint)} {c : Complaint} (more : List (List Complaint)) → Given ss c → Given (ss ++ more) c
given_front more (in_this f) = in_this f
given_front more (in_later e g) = in_later e (given_front more g)

as_the_reader : (room : Room) (bs : List ℕ) (number line : ℕ) → Given (song_stages bs) (complaint number line) → answer room bs ≡ Reading.refused number line
unfolding stages
as_the_reader room bs number line g = (refused_exactly room bs number line).1 (given_front (room_faults room (tables (song_of bs)) ∷ []) g)

room_for : (lent : ℕ) (copy : List ℕ) → (copy_faults lent copy ≡ []) ↔ ((length copy ≤ lent) × (length copy ≤ most_bytes))
unfolding copy_faults
room_for lent copy = (
  (λ h.
      let p = none_passes (ltb lent (length copy)) (ltb most_bytes (length copy)) (complain_if_nil _ 20 0 h) in
      (ltb-false lent (length copy) p.0, ltb-false most_bytes (length copy) p.1)),
  (λ h. nil_complain_if 20 0 (pass_none (le-ltb lent (length copy) h.0) (le-ltb most_bytes (length copy) h.1))),
)

answered_exactly : (lent : ℕ) (bs copy : List ℕ) → (flat_answer lent bs ≡ copied copy) ↔ (Copied bs copy × (length copy ≤ lent) × (length copy ≤ most_bytes))
unfolding flat_answer flat_by flat_stages Silent copy_of copy_by
answered_exactly lent bs copy = (
  (λ h. go (verdict (flat_stages lent bs)) refl h),
  (λ c.
      let e : copy_of bs ≡ some copy = (copied_exactly bs copy).1 c.0 in
      back (verdict (song_stages bs)) refl e c.1 c.2),
)
  where
    go : (o : Option Complaint) → verdict (flat_stages lent bs) ≡ o → flat_by o (flat_copy bs) ≡ copied copy
        → Copied bs copy × (length copy ≤ lent) × (length copy ≤ most_bytes)
    go none e h =
        let z : flat_copy bs ≡ copy = cc in
        let s = silent_append (song_stages bs) (copy_faults lent (flat_copy bs) ∷ []) (verdict_silent (flat_stages lent bs) e) in
        let v = silent_verdict (song_stages bs) s.0 in
        let r = (room_for lent copy).0 (subst (λ x. copy_faults lent x ≡ []) z s.1.0) in
        ((copied_exactly bs copy).0 (rw v (ap (λ x. some x) z)), r.0, r.1)
    go (some c) e h = let z : ◌≡◌ {A = ℕ} 0 1 = cc in absurd (omega arith)

    back : (o : Option Complaint) → verdict (song_stages bs) ≡ o → copy_by o (flat_copy bs) ≡ some copy → length copy ≤ lent → length copy ≤ most_bytes
        → flat_by (verdict (flat_stages lent bs)) (flat_copy bs) ≡ copied copy
    back none e h l m =
        let z : flat_copy bs ≡ copy = cc in
        let f : copy_faults lent (flat_copy bs) ≡ [] = subst (λ x. copy_faults lent x ≡ []) (sym z) ((room_for lent copy).1 (l, m)) in
        let v : verdict (flat_stages lent bs) ≡ none =
        silent_verdict (flat_stages lent bs)
        (append_silent (song_stages bs) (copy_faults lent (flat_copy bs) ∷ []) (verdict_silent (song_stages bs) e) (f, tt)) in
        ap (λ o. flat_by o (flat_copy bs)) v ∙ ap (λ x. copied x) z
    back (some c) e h l m = let z : ◌≡◌ {A = ℕ} 0 1 = cc in absurd (omega arith)

pub flat_demands : FlatDemands
flat_demands =
    record {
      copied_exactly = copied_exactly;
      one_copy = one_copy;
      refused_exactly = flat_refused;
      answered_exactly = answered_exactly;
      as_the_reader = as_the_reader;
      reads_back = reads_back;
      copied_again = copied_again;
      charts = charts_copied;
      pattern_length_lem = pattern_length_lem;
      length_repeated = length_repeated;
    }
