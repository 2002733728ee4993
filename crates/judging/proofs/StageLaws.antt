-- Stages one after another: the first that has a complaint gives it, and one that refuses nothing has none.
use Prim.Native.Nat.{ℕ, ◌≤◌}
use mathlib.Core.Path.{◌≡◌, refl, sym, ap, ◌∙◌}
use mathlib.Core.List.{List, [], ◌∷◌, ◌++◌}
use mathlib.Core.Bool.{Bool, true, false, not}
use mathlib.Core.Option.{Option, none, some}
use borrow.Author.Tests.{ltb-false}
use lib.Dec.{ltb}
use lib.ListN.{length}
use Rattle.std.specs.Prelude as std
use Rattle.std.specs.Prelude.{Some, None, Result, Ok, Err}
use Rattle.std.specs.Option.{option_or}
use Rattle.std.specs.Result.{result_err}
use Rattle.songcode.specs.Lists.{provided◌then◌else◌}
use Rattle.songcode.specs.Complaints.{Complaint, complaint, earliest, stage_or, verdict}
use Rattle.songcode.specs.Answer.Answer.{most_bytes, input_faults}
use Rattle.songcode.proofs.VerdictAgree.{verdict_append, last_stage}
use Rattle.songcode.proofs.ListLaws.{by_cases, true_is_not_false, nil_is_not_cons}
use Rattle.songcode.proofs.PatternLaws.{none_some}
use Rattle.refusals.specs.declared.Refusal.{Refusal}
use Rattle.refusals.specs.Refusals.{told}
use Rattle.laying.proofs.ComplaintLaws.{earliest_none}

-- A stage that refuses gives the verdict; one that complains of nothing leaves it to the rest.
pub stage_refused : (e : Refusal) (xs : List Complaint) (rest : List (List Complaint)) → told (Some e) ≡ earliest xs → told (Some e) ≡ verdict (xs ∷ rest)
unfolding verdict told stage_or
stage_refused e xs rest is = rw (← is) refl

pub stage_passed : (xs : List Complaint) (rest : List (List Complaint)) → xs ≡ [] → verdict (xs ∷ rest) ≡ verdict rest
unfolding verdict earliest stage_or
stage_passed xs rest e = rw e refl

-- A stage that refuses nothing complains of nothing.
pub stage_none : {r : std.Option Refusal} (xs : List Complaint) → told r ≡ earliest xs → r ≡ None → xs ≡ []
unfolding told
stage_none xs e z = earliest_none xs (sym e ∙ ap told z)

-- Nothing is told exactly where nothing is refused.
pub told_none : {r : std.Option Refusal} → r ≡ None → told r ≡ none
unfolding told
told_none e = rw e refl

pub none_told : (r : std.Option Refusal) → told r ≡ none → r ≡ None
unfolding told
none_told None e = refl
none_told (Some x) e = none_some e refl

pub none_err : {A : Type 0} (r : Result A Refusal) → told (result_err r) ≡ none → (x : A) × (r ≡ Ok x)
unfolding told
none_err (Ok x) e = (x, refl)
none_err (Err q) e = none_some e refl

-- As `is_none` finds it.
pub none_found : {A : Type 0} {r : std.Option A} {b : Bool} → std.is_some r ≡ not b → b ≡ true → r ≡ None
none_found {r = None} e t = refl
none_found {r = Some x} e t = true_is_not_false refl (e ∙ ap not t)

pub some_found : {A : Type 0} {r : std.Option A} {b : Bool} → std.is_some r ≡ not b → b ≡ false → r ≡ None → ⊥
some_found e f z = true_is_not_false (e ∙ ap not f) (ap std.is_some z)

-- Of two stages the first that refuses, and of two groups of stages.
pub told_or : (a b : std.Option Refusal) → told (option_or a b) ≡ stage_or (told a) (told b)
unfolding told stage_or
told_or None b = refl
told_or (Some x) b = refl

pub given_none : (a b : Option Complaint) → stage_or a b ≡ none → (a ≡ none) × (b ≡ none)
unfolding stage_or
given_none none b h = (refl, h)
given_none (some c) b h = none_some h refl

pub two_stages : (xs ys : List Complaint) (a b : Option Complaint) → a ≡ earliest xs → (xs ≡ [] → b ≡ earliest ys) → stage_or a b ≡ verdict (xs ∷ ys ∷ [])
unfolding stage_or verdict
two_stages xs ys a b e g = rw e (go (earliest xs) refl)
  where
    go : (o : Option Complaint) → earliest xs ≡ o → stage_or o b ≡ stage_or o (verdict (ys ∷ []))
    go none q = g (earliest_none xs q) ∙ sym (last_stage ys)
    go (some c) q = refl

pub groups_given : (xs ys : List (List Complaint)) (a b : Option Complaint) → a ≡ verdict xs → (a ≡ none → b ≡ verdict ys) → stage_or a b ≡ verdict (xs ++ ys)
unfolding stage_or
groups_given xs ys a b e g = go a g ∙ ap (λ (o : Option Complaint). stage_or o (verdict ys)) e ∙ sym (verdict_append xs ys)
  where
    go : (o : Option Complaint) → (o ≡ none → b ≡ verdict ys) → stage_or o b ≡ stage_or o (verdict ys)
    go none f = f refl
    go (some c) f = refl

pub input_small : (s : List ℕ) → input_faults s ≡ [] → length s ≤ 65536
unfolding input_faults provided◌then◌else◌ most_bytes
input_small s h = by_cases (ltb 65536 (length s))
    (λ e. let z : complaint 1 0 ∷ [] ≡ [] = rw e at h in nil_is_not_cons (sym z))
    (λ e. ltb-false 65536 (length s) e)
