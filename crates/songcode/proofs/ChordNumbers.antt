-- The numbers and the spellings of base chords are each other's.
use Prim.Native.Nat.{ℕ, zero, suc, ◌+◌, ◌<◌}
use native.Mathlib.Omega.{arith}
use mathlib.Core.Path.{◌≡◌, refl, ap, ◌∙◌}
use mathlib.Core.List.{List, [], ◌∷◌}
use mathlib.Core.Bool.{Bool, true, false, not}
use mathlib.Core.Option.{some}
use borrow.Author.Tests.{not-true}
use lib.ListN.{length, get_or}
use Rattle.songcode.specs.Lists.{provided◌then◌else◌, any}
use Rattle.songcode.specs.Bytes.{same}
use Rattle.songcode.specs.Answer.Chords.{bases, spelling_of, number_from, number_of}
use Rattle.songcode.proofs.ListLaws.{by_cases, both_pass, none_passes}
use Rattle.songcode.proofs.Spellings.{same_true, same_refl, distinct}

-- A number that is found in a list that begins with the number n: its spelling stands there.
found_there : (n : ℕ) (ss : List (List ℕ)) (s : List ℕ) (k : ℕ) → number_from n ss s ≡ some k → (i : ℕ) × (i < length ss) × (k ≡ n + i) × (get_or ss i [] ≡ s)
unfolding number_from provided◌then◌else◌
found_there n [] s k h = let z : ◌≡◌ {A = ℕ} 0 1 = cc in absurd (omega arith)
found_there n (t ∷ ss) s k h =
    by_cases (same t s)
    (λ e. let g : some n ≡ some k = rw e at h in
    let m : n ≡ k = cc in (0, omega arith, omega arith, same_true t s e))
    (λ e. let r = found_there (suc n) ss s k (rw e at h) in
    let q = r.2 in
    let l = r.1 in (suc r.0, omega arith, omega arith, r.3))

pub number_of_spelling : (s : List ℕ) (number : ℕ) → number_of s ≡ some number → (number < 34) × (spelling_of number ≡ s)
unfolding number_of spelling_of bases
number_of_spelling s number h =
    let r = found_there 0 bases s number h in
    let e : number ≡ r.0 = let q = r.2 in omega arith in
    let l = r.1 in
    (omega arith, rw e r.3)

-- Where no spelling stands twice, each is found at its own number.
none_at : (p : List ℕ → Bool) (ss : List (List ℕ)) (i : ℕ) → any p ss ≡ false → i < length ss → p (get_or ss i []) ≡ false
unfolding any
none_at p [] i e h = absurd (omega arith)
none_at p (s ∷ ss) zero e h = (none_passes (p s) (any p ss) e).0
none_at p (s ∷ ss) (suc i) e h = none_at p ss i (none_passes (p s) (any p ss) e).1 (omega arith)

spelling_found : (n : ℕ) (ss : List (List ℕ)) (i : ℕ) → distinct ss ≡ true → i < length ss → number_from n ss (get_or ss i []) ≡ some (n + i)
unfolding number_from provided◌then◌else◌ distinct
spelling_found n [] i d h = absurd (omega arith)
spelling_found n (t ∷ ss) zero d h = rw (same_refl t) (ap (λ k. some k) (omega arith))
spelling_found n (t ∷ ss) (suc i) d h =
    let b = both_pass (not (any (same t) ss)) (distinct ss) d in
    let other = none_at (same t) ss i (not-true (any (same t) ss) b.0) (omega arith) in
    rw other (spelling_found (suc n) ss i b.1 (omega arith) ∙ ap (λ k. some k) (omega arith))

pub spelling_of_number : (number : ℕ) → number < 34 → number_of (spelling_of number) ≡ some number
unfolding number_of spelling_of bases distinct any same
spelling_of_number number h = spelling_found 0 bases number refl h ∙ ap (λ k. some k) (omega arith)
