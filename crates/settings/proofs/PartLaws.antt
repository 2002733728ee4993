-- How far bytes pass a test: one law each for the turns of a loop, and what it says of bytes with places.
use Prim.Native.Nat.{ℕ, suc, ◌+◌, ◌-◌, ◌<◌, ◌≤◌}
use mathlib.Core.Path.{◌≡◌, refl, sym, ap, ◌∙◌}
use mathlib.Core.List.{List, [], ◌∷◌}
use mathlib.Core.Bool.{Bool, true, false, not, ◌&&◌}
use native.Mathlib.Omega.{arith}
use native.Mathlib.Nat.{add-zero}
use lib.Dec.{eqb}
use lib.ListN.{length, take, drop}
use lib.Seq.{take-take, drop-drop}
use Rattle.std.proofs.Common.{Option}
use Rattle.std.specs.List.{AllWithin, HoldsAt}
use Rattle.std.specs.Option.{MatchOption, unwrap_or}
use Rattle.std.specs.Str.{bytes_eq}
use Rattle.std.proofs.lemmas.Iterator.{index_from_first}
use Rattle.songcode.specs.Lists.{provided◌then◌else◌, taken, left}
use Rattle.songcode.specs.Bytes.{Byte, placed, same, is_blank, not_blank}
use Rattle.songcode.specs.Answer.Keys.{name_in, setting_in}
use Rattle.text.specs.Spans.{blank, part, front_blanks}
use Rattle.songcode.proofs.ListLaws.{drop_take, by_cases}
use Rattle.settings.specs.Parts.{passing, word_length}

-- How far bytes pass a test: up to the first that does not, or to the end.
pub passing_found : (p : ℕ → Bool) (w : List ℕ) (r : Option ℕ)
    → MatchOption r (AllWithin (λ b. p b ≡ true) w 0 (length w)) (λ i. (i < length w) × HoldsAt (λ b. p b ≡ false) w i × AllWithin (λ b. p b ≡ true) w 0 i)
    → passing p w ≡ unwrap_or r (length w)
unfolding passing provided◌then◌else◌
passing_found p w r first =
    index_from_first (passing p) (λ b. p b ≡ false) (λ b. p b ≡ true) refl (λ b bs e. rw e) (λ b bs e. rw e (omega arith)) w r first

-- A test of bytes that looks at their values alone.
abbrev pub OfValues : (Byte → Bool) → (ℕ → Bool) → Type 0
OfValues q p = (a b : ℕ) → q (record { place = a; value = b }) ≡ p b

module _ (q : Byte → Bool) (p : ℕ → Bool) (same : OfValues q p) where
  pub taken_placed : (a : ℕ) (w : List ℕ) → taken q (placed a w) ≡ placed a (take (passing p w) w)
  unfolding taken placed passing provided◌then◌else◌
  taken_placed a [] = refl
  taken_placed a (b ∷ w) = by_cases (p b) (λ e. rw (same a b, e, taken_placed (suc a) w)) (λ e. rw (same a b, e))

  pub left_placed : (a : ℕ) (w : List ℕ) → left q (placed a w) ≡ placed (a + passing p w) (drop (passing p w) w)
  unfolding left placed passing provided◌then◌else◌
  left_placed a [] = refl
  left_placed a (b ∷ w) =
      let k : a + suc (passing p w) ≡ suc a + passing p w = omega arith in
      by_cases (p b) (λ e. rw (same a b, e, k) (left_placed (suc a) w)) (λ e. rw (same a b, e, add-zero))

pub blank_values : OfValues is_blank blank
unfolding is_blank
blank_values a b = refl

pub not_blank_values : OfValues not_blank (λ b. not (blank b))
unfolding not_blank is_blank
not_blank_values a b = refl

pub front_blanks_passing : (w : List ℕ) → front_blanks w ≡ passing blank w
unfolding front_blanks passing provided◌then◌else◌
front_blanks_passing [] = refl
front_blanks_passing (b ∷ w) = by_cases (blank b) (λ e. rw (e, front_blanks_passing w)) (λ e. rw e)

-- A part of a part is a part.
pub part_front : (s : List ℕ) (a e n : ℕ) → n ≤ e - a → take n (part a e s) ≡ part a (a + n) s
part_front s a e n h = let k : a + n - a ≡ n = omega arith in rw k (take-take n (e - a) (drop a s) h)

pub part_back : (s : List ℕ) (a e n : ℕ) → drop n (part a e s) ≡ part (a + n) e s
part_back s a e n = let k : e - a - n ≡ e - (a + n) = omega arith in rw (drop_take n (e - a) (drop a s), k, drop-drop n a s)

-- A name and a setting are parts of the text.
pub name_part : (s : List ℕ) (a e n : ℕ) → n ≡ word_length (part a e s) → n ≤ e - a → name_in (placed a (part a e s)) ≡ placed a (part a (a + n) s)
unfolding name_in
name_part s a e n h k = taken_placed not_blank (λ b. not (blank b)) not_blank_values a (part a e s) ∙ rw (sym h, part_front s a e n k)

pub setting_part : (s : List ℕ) (a e n m : ℕ) → n ≡ word_length (part a e s) → m ≡ front_blanks (part (a + n) e s)
    → setting_in (placed a (part a e s)) ≡ placed (a + n + m) (part (a + n + m) e s)
unfolding setting_in
setting_part s a e n m h k =
    rw (left_placed not_blank (λ b. not (blank b)) not_blank_values a (part a e s), sym h, part_back s a e n)
    (left_placed is_blank blank blank_values (a + n) (part (a + n) e s) ∙ rw (sym (front_blanks_passing (part (a + n) e s)), sym k, part_back s (a + n) e m))

-- Two texts are the same where slices compare so; texts of two lengths differ.
pub same_is : (v w : List ℕ) → bytes_eq v w ≡ same v w
unfolding same
same_is [] [] = refl
same_is [] (y ∷ w) = refl
same_is (x ∷ v) [] = refl
same_is (x ∷ v) (y ∷ w) = ap (λ b. eqb x y && b) (same_is v w)

pub same_lengths : (v w : List ℕ) → (length w ≡ length v → ⊥) → same v w ≡ false
unfolding same
same_lengths [] [] n = absurd (n refl)
same_lengths [] (y ∷ w) n = refl
same_lengths (x ∷ v) [] n = refl
same_lengths (x ∷ v) (y ∷ w) n =
    by_cases (eqb x y) (λ e. rw e (same_lengths v w (λ k. n (ap suc k)))) (λ e. rw e)
