-- The answer of the call: the song's own refusal, 20, or the copy.
use Prim.Native.Nat.{ℕ, ◌<◌, ◌≤◌, min}
use mathlib.Core.Path.{◌≡◌, refl, sym, ap, ◌∙◌}
use mathlib.Core.List.{List, [], ◌∷◌}
use mathlib.Core.Bool.{true, ◌||◌, or-true}
use mathlib.Core.Logic.{◌⊎◌, inl, inr}
use mathlib.Core.Option.{Option, none, some}
use native.Mathlib.Omega.{arith}
use lib.Dec.{ltb}
use lib.ListN.{length}
use borrow.Author.Tests.{lt-ltb, le-ltb}
use Rattle.songcode.specs.Lists.{when}
use Rattle.songcode.specs.Complaints.{Complaint, complain_if, earlier, earliest, stage_or, verdict}
use Rattle.songcode.specs.Answer.Tables.{Tables, tables}
use Rattle.songcode.specs.Answer.Answer.{most_bytes, song_of, song_stages, answer_by, song_answer, accepted}
use Rattle.songcode.specs.Answer.Answer as Reading
use Rattle.songcode.specs.Answer.Flat.{refused, copied, flat_by, flat_copy, copy_faults, flat_stages, flat_answer}
use Rattle.songcode.proofs.ListLaws.{nil_complain_if, pass_none}
use Rattle.songcode.proofs.VerdictAgree.{verdict_append, last_stage}
use Rattle.std.proofs.Common.{Result, Ok, Err, IsErrAnd}
use Rattle.refusals.specs.declared.Refusal.{Refusal}
use Rattle.refusals.specs.Names.{number_of}
use Rattle.flat.specs.Sheets.{Sheet, puts}
use Rattle.flat.specs.Answers.{Copied, copied_as, copied_of, holding, Flattened}
use Rattle.flat.proofs.SheetLaws.{puts_at, puts_sets}

-- 20 is one stage more.
stages_are : (lent : ℕ) (bs : List ℕ) → verdict (flat_stages lent bs) ≡ stage_or (verdict (song_stages bs)) (earliest (copy_faults lent (flat_copy bs)))
unfolding flat_stages
stages_are lent bs = verdict_append (song_stages bs) (copy_faults lent (flat_copy bs) ∷ [])
    ∙ ap (stage_or (verdict (song_stages bs))) (last_stage (copy_faults lent (flat_copy bs)))

refused_too : (o q : Option Complaint) (t : Tables) (copy : List ℕ) (n l : ℕ) → answer_by o t ≡ Reading.refused n l → flat_by (stage_or o q) copy ≡ refused n l
unfolding answer_by stage_or flat_by
refused_too none q t copy n l h = let z : ◌≡◌ {A = ℕ} 0 1 = cc in absurd (omega arith)
refused_too (some c) q t copy n l h =
    let a : c.number ≡ n = cc in
    let b : c.line ≡ l = cc in
    rw (a, b) refl

by_the_last : (o q : Option Complaint) (t : Tables) (copy : List ℕ) → answer_by o t ≡ accepted t → flat_by (stage_or o q) copy ≡ flat_by q copy
unfolding answer_by stage_or flat_by
by_the_last none q t copy h = refl
by_the_last (some c) q t copy h = let z : ◌≡◌ {A = ℕ} 0 1 = cc in absurd (omega arith)

module _ (lent : ℕ) (bs : List ℕ) where
  flat_refused : (n l : ℕ) → song_answer bs ≡ Reading.refused n l → flat_answer lent bs ≡ refused n l
  unfolding song_answer flat_answer
  flat_refused n l e =
      ap (λ o. flat_by o (flat_copy bs)) (stages_are lent bs)
      ∙ refused_too (verdict (song_stages bs)) (earliest (copy_faults lent (flat_copy bs))) (tables (song_of bs)) (flat_copy bs) n l e

  module _ (is : song_answer bs ≡ accepted (tables (song_of bs))) where
    flat_judged : flat_answer lent bs ≡ flat_by (earliest (copy_faults lent (flat_copy bs))) (flat_copy bs)
    unfolding song_answer flat_answer
    flat_judged =
        ap (λ o. flat_by o (flat_copy bs)) (stages_are lent bs)
        ∙ by_the_last (verdict (song_stages bs)) (earliest (copy_faults lent (flat_copy bs))) (tables (song_of bs)) (flat_copy bs) is

    flat_long : ltb lent (length (flat_copy bs)) || ltb most_bytes (length (flat_copy bs)) ≡ true → flat_answer lent bs ≡ refused 20 0
    unfolding copy_faults complain_if when earliest earlier flat_by
    flat_long e = flat_judged ∙ rw e refl

    flat_copied : length (flat_copy bs) ≤ lent → length (flat_copy bs) ≤ 65536 → flat_answer lent bs ≡ copied (flat_copy bs)
    unfolding copy_faults most_bytes earliest flat_by
    flat_copied h k =
        let none_wrong : copy_faults lent (flat_copy bs) ≡ [] = nil_complain_if 20 0
        (pass_none (le-ltb lent (length (flat_copy bs)) h) (le-ltb 65536 (length (flat_copy bs)) k)) in
        flat_judged ∙ ap (λ fs. flat_by (earliest fs) (flat_copy bs)) none_wrong

-- What the call promises, by the count of the copy's bytes.
pub flattened_refused : (text before after : List ℕ) (n l : ℕ) (r : Copied) → song_answer text ≡ Reading.refused n l → after ≡ before
    → r ≡ record { refusal = n; line = l; length = 0 } → Flattened text before r after
unfolding copied_of holding
flattened_refused text before after n l r is same e =
    let f = flat_refused (length before) text n l is in
    record { answer = e ∙ sym (ap copied_of f); copy = same ∙ sym (ap (λ a. holding a before) f) }

-- What a stage refuses is passed up.
pub copy_refused : (text before : List ℕ) (e : Refusal) (r : Result ℕ Refusal) → IsErrAnd r (λ y. y ≡ e)
    → song_answer text ≡ Reading.refused (number_of e.why) e.line → Flattened text before (copied_as r) before
unfolding copied_as
copy_refused text before e (Ok n) is a = absurd is
copy_refused text before e (Err y) is a = flattened_refused text before before (number_of e.why) e.line _ a refl (rw is refl)

module _ (text before : List ℕ) (is : song_answer text ≡ accepted (tables (song_of text))) (c d : List ℕ) (count : ℕ)
    (counted : ◌≡◌ {A = Sheet} (record { copy = d; at = count }) (puts (flat_copy text) (record { copy = c; at = 0 }))) where
  count_is : count ≡ min 65537 (length (flat_copy text))
  count_is = ap (λ (x : Sheet). x.at) counted ∙ puts_at (flat_copy text) c

  too_long : (65536 < count) ⊎ (length before < count) → ltb (length before) (length (flat_copy text)) || ltb most_bytes (length (flat_copy text)) ≡ true
  unfolding most_bytes
  too_long (inl h) = let k = count_is in rw (lt-ltb 65536 (length (flat_copy text)) (omega arith)) (or-true (ltb (length before) (length (flat_copy text))))
  too_long (inr h) = let k = count_is in rw (lt-ltb (length before) (length (flat_copy text)) (omega arith))

  pub flattened_long : (after : List ℕ) (r : Copied) → (65536 < count) ⊎ (length before < count) → after ≡ before
      → r ≡ record { refusal = 20; line = 0; length = 0 } → Flattened text before r after
  unfolding copied_of holding
  flattened_long after r h same e =
      let f = flat_long (length before) text is (too_long h) in
      record { answer = e ∙ sym (ap copied_of f); copy = same ∙ sym (ap (λ a. holding a before) f) }

  pub flattened : (after : List ℕ) (at : ℕ) → count ≤ 65536 → count ≤ length before
      → ◌≡◌ {A = Sheet} (record { copy = after; at = at }) (puts (flat_copy text) (record { copy = before; at = 0 }))
      → Flattened text before (record { refusal = 0; line = 0; length = count }) after
  unfolding copied_of holding
  flattened after at h k e =
      let i = count_is in
      let same : count ≡ length (flat_copy text) = omega arith in
      let f = flat_copied (length before) text is (omega arith) (omega arith) in
      record {
        answer = ap (λ (n : ℕ). record { refusal = 0; line = 0; length = n }) same ∙ sym (ap copied_of f);
        copy = ap (λ (x : Sheet). x.copy) e ∙ puts_sets (flat_copy text) (record { copy = before; at = 0 }) (omega arith) ∙ sym (ap (λ a. holding a before) f);
      }

-- No second outcome meets the promise.
pub one_copy : (text before : List ℕ) (r q : Copied) (a b : List ℕ) → Flattened text before r a → Flattened text before q b → (r ≡ q) × (a ≡ b)
one_copy text before r q a b x y = (x.answer ∙ sym y.answer, x.copy ∙ sym y.copy)
