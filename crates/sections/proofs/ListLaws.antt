-- Laws of lists: the elements in front that pass a test, taken of those that pass another; one element more; and what holds of each element of a part.
use Prim.Native.Nat.{ℕ, zero, suc, ◌+◌}
use mathlib.Core.Path.{◌≡◌, refl, sym, ◌∙◌}
use mathlib.Core.List.{List, [], ◌∷◌, ◌++◌}
use mathlib.Core.Bool.{Bool, ◌&&◌}
use lib.ListN.{take, drop}
use lib.Seq.{take-add, drop-drop}
use Rattle.songcode.specs.Lists.{provided◌then◌else◌, taken, left}
use Rattle.songcode.proofs.ListLaws.{Each, by_cases}

module _ {A : Type 0} where
  module _ (q p : A → Bool) where
    -- Both tests at once.
    abbrev pub both : A → Bool
    both x = q x && p x

    pub taken_taken : (xs : List A) → taken p (taken q xs) ≡ taken both xs
    unfolding taken provided◌then◌else◌
    taken_taken [] = refl
    taken_taken (x ∷ xs) = by_cases (q x) (λ e. by_cases (p x) (λ f. rw (e, f, taken_taken xs)) (λ f. rw (e, f))) (λ e. rw e)

    pub left_taken : (xs : List A) → left p (taken q xs) ≡ taken q (left both xs)
    unfolding taken left provided◌then◌else◌
    left_taken [] = refl
    left_taken (x ∷ xs) = by_cases (q x) (λ e. by_cases (p x) (λ f. rw (e, f) (left_taken xs)) (λ f. rw (e, f, e))) (λ e. rw (e, e))

    -- What both pass over, one passes over.
    pub left_left : (xs : List A) → left q (left both xs) ≡ left q xs
    unfolding left provided◌then◌else◌
    left_left [] = refl
    left_left (x ∷ xs) = by_cases (q x) (λ e. by_cases (p x) (λ f. rw (e, f) (left_left xs)) (λ f. rw (e, f, e))) (λ e. rw (e, e))

  -- One element more is taken, and one less is left.
  module _ (k : ℕ) (xs : List A) {x : A} {ys : List A} (e : drop k xs ≡ x ∷ ys) where
    pub take_more : take (k + 1) xs ≡ take k xs ++ (x ∷ [])
    take_more = take-add k 1 xs ∙ rw e

    pub drop_more : drop (k + 1) xs ≡ ys
    drop_more = sym (drop-drop 1 k xs) ∙ rw e

  -- What holds of each element holds of each that is taken or left.
  module _ (P : A → Type 0) where
    pub each_take : (k : ℕ) (xs : List A) → Each P xs → Each P (take k xs)
    unfolding Each
    each_take zero xs e = tt
    each_take (suc k) [] e = tt
    each_take (suc k) (x ∷ xs) e = (e.0, each_take k xs e.1)

    pub each_taken : (p : A → Bool) (xs : List A) → Each P xs → Each P (taken p xs)
    unfolding Each taken provided◌then◌else◌
    each_taken p [] e = tt
    each_taken p (x ∷ xs) e = by_cases (p x) (λ t. rw t (e.0, each_taken p xs e.1)) (λ t. rw t tt)

    pub each_left : (p : A → Bool) (xs : List A) → Each P xs → Each P (left p xs)
    unfolding Each left provided◌then◌else◌
    each_left p [] e = tt
    each_left p (x ∷ xs) e = by_cases (p x) (λ t. rw t (each_left p xs e.1)) (λ t. rw t e)
