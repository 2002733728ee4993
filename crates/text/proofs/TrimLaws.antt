-- A line without the blanks at its ends is a part of it, by frontBlanks and solidLength.
use Prim.Native.Nat.{ℕ, zero, suc, ◌+◌, ◌≤◌}
use mathlib.Core.Path.{◌≡◌, refl, sym, ◌∙◌}
use mathlib.Core.List.{List, [], ◌∷◌, ◌++◌, reverse, reverse-cons, reverse-append}
use mathlib.Core.Bool.{Bool, true, false}
use native.Mathlib.Omega.{arith}
use native.Mathlib.Nat.{add-zero}
use lib.ListN.{length, take, drop}
use Rattle.songcode.specs.Lists.{provided◌then◌else◌, left}
use Rattle.songcode.specs.Bytes.{Byte, placed, is_blank}
use Rattle.songcode.specs.Answer.Lines.{drop_last, trimmed}
use Rattle.songcode.proofs.ListLaws.{by_cases}
use Rattle.text.specs.Spans.{blank, front_blanks, grown, solid_length}

left_placed : (at : ℕ) (bs : List ℕ) → left is_blank (placed at bs) ≡ placed (at + front_blanks bs) (drop (front_blanks bs) bs)
unfolding left placed front_blanks provided◌then◌else◌
left_placed at [] = refl
left_placed at (b ∷ bs) =
    let k : at + suc (front_blanks bs) ≡ suc at + front_blanks bs = omega arith in
    by_cases (blank b) (λ e. rw (e, k) (left_placed (suc at) bs)) (λ e. rw (e, add-zero))

-- An element in front of what drop_last leaves: it goes too if it passes and nothing is left.
unfoldable kept : Bool → Byte → List Byte → List Byte
kept t x (y ∷ ys) = x ∷ y ∷ ys
kept true x [] = []
kept false x [] = x ∷ []

unfoldable last_kept : Bool → Byte → List Byte → List Byte
last_kept t x (y ∷ ys) = (y ∷ ys) ++ (x ∷ [])
last_kept true x [] = []
last_kept false x [] = x ∷ []

left_last : (p : Byte → Bool) (x : Byte) (ys : List Byte) → left p (ys ++ (x ∷ [])) ≡ last_kept (p x) x (left p ys)
unfolding left last_kept provided◌then◌else◌
left_last p x [] = by_cases (p x) (λ e. rw e) (λ e. rw e)
left_last p x (y ∷ ys) = by_cases (p y) (λ e. rw e (left_last p x ys)) (λ e. rw e)

kept_some : (t : Bool) (x : Byte) (ys : List Byte) (y : Byte) → kept t x (ys ++ (y ∷ [])) ≡ x ∷ (ys ++ (y ∷ []))
unfolding kept
kept_some t x [] y = refl
kept_some t x (z ∷ ys) y = refl

reverse_kept : (t : Bool) (x : Byte) (ys : List Byte) → reverse (last_kept t x ys) ≡ kept t x (reverse ys)
unfolding last_kept kept
reverse_kept true x [] = refl
reverse_kept false x [] = refl
reverse_kept t x (y ∷ ys) = reverse-append (y ∷ ys) (x ∷ []) ∙ rw (reverse-cons y ys) (sym (kept_some t x (reverse ys) y))

drop_last_cons : (p : Byte → Bool) (x : Byte) (xs : List Byte) → drop_last p (x ∷ xs) ≡ kept (p x) x (drop_last p xs)
unfolding drop_last
drop_last_cons p x xs = rw (reverse-cons x xs, left_last p x (reverse xs)) (reverse_kept (p x) x (left p (reverse xs)))

pub solid_le : (bs : List ℕ) → solid_length bs ≤ length bs
unfolding solid_length grown
solid_le [] = omega arith
solid_le (b ∷ bs) = go (blank b) (solid_length bs) (solid_le bs)
  where
    go : (t : Bool) (n : ℕ) → n ≤ length bs → grown t n ≤ suc (length bs)
    go t (suc n) h = omega arith
    go true zero h = omega arith
    go false zero h = omega arith

kept_placed : (at b : ℕ) (t : Bool) (n : ℕ) (bs : List ℕ) → n ≤ length bs
    → kept t (record { place = at; value = b }) (placed (suc at) (take n bs)) ≡ placed at (take (grown t n) (b ∷ bs))
unfolding kept placed grown
kept_placed at b true zero bs h = refl
kept_placed at b false zero bs h = refl
kept_placed at b t (suc n) [] h = absurd (omega arith)
kept_placed at b t (suc n) (c ∷ bs) h = refl

drop_last_nil : drop_last is_blank [] ≡ []
unfolding drop_last left
drop_last_nil = refl

pub drop_last_placed : (at : ℕ) (bs : List ℕ) → drop_last is_blank (placed at bs) ≡ placed at (take (solid_length bs) bs)
unfolding placed solid_length
drop_last_placed at [] = drop_last_nil
drop_last_placed at (b ∷ bs) =
    drop_last_cons is_blank (record { place = at; value = b }) (placed (suc at) bs)
    ∙ rw (drop_last_placed (suc at) bs) (kept_placed at b (blank b) (solid_length bs) bs (solid_le bs))

pub trimmed_placed : (at : ℕ) (bs : List ℕ) → trimmed (placed at bs) ≡ placed (at + front_blanks bs)
    (take (solid_length (drop (front_blanks bs) bs)) (drop (front_blanks bs) bs))
unfolding trimmed
trimmed_placed at bs = rw (left_placed at bs) (drop_last_placed (at + front_blanks bs) (drop (front_blanks bs) bs))
