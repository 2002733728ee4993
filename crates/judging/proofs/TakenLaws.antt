-- Stage 6: the lyric lines that are taken, section by section, and the first of them without a count.
use Prim.Native.Nat.{ℕ, zero, suc, ◌≤◌, min}
use mathlib.Core.Path.{◌≡◌, refl, sym, ap, ◌∙◌}
use mathlib.Core.List.{List, [], ◌∷◌, ◌++◌, flat_map}
use mathlib.Core.Bool.{Bool, true, false, not, ◌||◌, or_assoc}
use mathlib.Core.Option.{Option, none, some}
use native.Mathlib.Omega.{arith}
use lib.Dec.{eqb, ltb}
use borrow.Author.Tests.{not-true, not-false, ne_eqb, ltb-true, ltb-false, eqb-true}
use Rattle.songcode.specs.Lists.{provided◌then◌else◌, any, when}
use Rattle.songcode.specs.Complaints.{Complaint, complaint, complain_if, goes_first, earlier, earliest}
use Rattle.songcode.specs.Song.{LyricLine, Section, Song}
use Rattle.songcode.specs.Answer.Lyrics.{is_counted, is_played, lines_taken, has_counts, count_faults}
use Rattle.songcode.proofs.ListLaws.{by_cases, any_append, Each, each_append}
use Rattle.refusals.specs.Refusals.{told}
use Rattle.judging.specs.declared.lyrics.Tally.{Tally}
use Rattle.judging.specs.declared.lyrics.Taken.{Taken}
use Rattle.judging.specs.Lyrics.{first_line, bare_line, tallied, taken_with, count_fault}
use Rattle.judging.proofs.TallyLaws.{first_zero, first_two, first_assoc}

-- Lyric lines with a number.
abbrev pub Numbered : List LyricLine → Type 0
Numbered ls = Each (λ (l : LyricLine). 1 ≤ l.number) ls

bare_append : (xs ys : List LyricLine) → bare_line (xs ++ ys) ≡ first_line (bare_line xs) (bare_line ys)
unfolding bare_line provided◌then◌else◌ first_line
bare_append [] ys = refl
bare_append (l ∷ xs) ys =
    by_cases (is_counted l)
    (λ e. rw e (bare_append xs ys))
    (λ e. rw e (ap (first_line l.number) (bare_append xs ys) ∙ first_assoc l.number (bare_line xs) (bare_line ys)))

-- The lyric lines that are taken of these sections.
abbrev pub taken_from : Song → List Section → List LyricLine
taken_from s xs = flat_map (λ x. provided is_played s x then x.lyrics else []) xs

module _ (s : Song) (x : Section) (xs : List Section) {empty : Bool} (p : empty ≡ not (is_played s x)) where
  taken_played : empty ≡ false → taken_from s (x ∷ xs) ≡ x.lyrics ++ taken_from s xs
  unfolding flat_map provided◌then◌else◌
  taken_played e = let q = not-false (is_played s x) (sym p ∙ e) in rw q

  taken_not : empty ≡ true → taken_from s (x ∷ xs) ≡ taken_from s xs
  unfolding flat_map provided◌then◌else◌
  taken_not e = let q = not-true (is_played s x) (sym p ∙ e) in rw q

  pub taken_numbered : Numbered x.lyrics → Numbered (taken_from s xs) → Numbered (taken_from s (x ∷ xs))
  taken_numbered a b =
      by_cases empty
      (λ e. rw (taken_not e) b)
      (λ e. rw (taken_played e) (each_append _ x.lyrics (taken_from s xs) a b))

  module _ (y : Taken) {t : Tally} (i : t ≡ tallied x.lyrics) where
    pub taken_counted : (taken_with empty y t).counted || any is_counted (taken_from s xs) ≡ y.counted || any is_counted (taken_from s (x ∷ xs))
    unfolding taken_with tallied provided◌then◌else◌
    taken_counted =
        by_cases empty
        (λ e. rw (taken_not e, e))
        (λ e. rw (taken_played e, any_append, e, i) (or_assoc y.counted (any is_counted x.lyrics) (any is_counted (taken_from s xs))))

    pub taken_bare : first_line (taken_with empty y t).bare (bare_line (taken_from s xs)) ≡ first_line y.bare (bare_line (taken_from s (x ∷ xs)))
    unfolding taken_with tallied provided◌then◌else◌
    taken_bare =
        by_cases empty
        (λ e. rw (taken_not e, e))
        (λ e. rw (taken_played e, bare_append, e, i) (sym (first_assoc y.bare (bare_line x.lyrics) (bare_line (taken_from s xs)))))

-- The complaint of the first line without a count.
bare_of : ℕ → Option Complaint
bare_of zero = none
bare_of (suc n) = some (complaint 16 (suc n))

first_is : (n m : ℕ) → earlier (complaint 16 (suc n)) (some (complaint 16 (suc m))) ≡ complaint 16 (suc (min n m))
unfolding earlier goes_first provided◌then◌else◌
first_is n m =
    by_cases (ltb (suc n) (suc m))
    (λ e. let h = ltb-true (suc n) (suc m) e in
    let z : n ≡ min n m = omega arith in rw e (ap (λ (k : ℕ). complaint 16 (suc k)) z))
    (λ e.
    let h = ltb-false (suc n) (suc m) e in
    by_cases (eqb (suc n) (suc m))
    (λ f. let g = eqb-true (suc n) (suc m) f in
    let z : n ≡ min n m = omega arith in rw (e, f) (ap (λ (k : ℕ). complaint 16 (suc k)) z))
    (λ f. let z : m ≡ min n m = omega arith in rw (e, f) (ap (λ (k : ℕ). complaint 16 (suc k)) z)))

earlier_bare : (n m : ℕ) → 1 ≤ n → some (earlier (complaint 16 n) (bare_of m)) ≡ bare_of (first_line n m)
unfolding bare_of earlier
earlier_bare zero m h = absurd (let y : ⊥ = omega arith in y)
earlier_bare (suc n) zero h = ap bare_of (sym (first_zero (suc n)))
earlier_bare (suc n) (suc m) h = ap some (first_is n m) ∙ ap bare_of (sym (first_two n m))

abbrev uncounted : LyricLine → List Complaint
uncounted l = complain_if (not (is_counted l)) 16 l.number

first_bare : (ls : List LyricLine) → Numbered ls → earliest (flat_map uncounted ls) ≡ bare_of (bare_line ls)
unfolding earliest flat_map complain_if when bare_line bare_of Each provided◌then◌else◌
first_bare [] a = refl
first_bare (l ∷ ls) a =
    by_cases (is_counted l)
    (λ e. rw e (first_bare ls a.1))
    (λ e. rw e (ap (λ (o : Option Complaint). some (earlier (complaint 16 l.number) o)) (first_bare ls a.1) ∙ earlier_bare l.number
    (bare_line ls) a.0))

fault_of_lem : (b : ℕ) → told (count_fault (record { counted = true; bare = b })) ≡ bare_of b
unfolding count_fault told bare_of provided◌then◌else◌
fault_of_lem zero = refl
fault_of_lem (suc b) = rw (ne_eqb (suc b) 0 (λ (z : suc b ≡ 0). let y : ⊥ = omega arith in y))

no_fault : (b : ℕ) → told (count_fault (record { counted = false; bare = b })) ≡ earliest []
unfolding count_fault told earliest provided◌then◌else◌
no_fault b = refl

pub count_refusal : (s : Song) (y : Taken) → y.counted ≡ has_counts s → y.bare ≡ bare_line (lines_taken s) → Numbered (lines_taken s)
    → told (count_fault y) ≡ earliest (count_faults s)
unfolding count_faults provided◌then◌else◌
count_refusal s y i j a =
    let parts : y ≡ record { counted = has_counts s; bare = bare_line (lines_taken s) } = rw (← i, ← j) refl in
    ap (λ (t : Taken). told (count_fault t)) parts
    ∙ by_cases (has_counts s)
    (λ e. rw e (fault_of_lem (bare_line (lines_taken s)) ∙ sym (first_bare (lines_taken s) a)))
    (λ e. rw e (no_fault (bare_line (lines_taken s))))
