-- What is said of a text's values alone is the same wherever the text stands.
use Prim.Native.Nat.{ℕ, zero, suc, ◌+◌}
use mathlib.Core.Path.{◌≡◌, refl, sym, ap, ◌∙◌}
use mathlib.Core.List.{List, [], ◌∷◌}
use mathlib.Core.Bool.{Bool, not}
use native.Mathlib.Omega.{arith}
use native.Mathlib.Nat.{add-zero}
use lib.Dec.{eqb}
use lib.ListN.{take, drop}
use Rattle.songcode.specs.Lists.{provided◌then◌else◌, taken, left}
use Rattle.songcode.specs.Bytes.{Byte, placed, is_byte}
use Rattle.songcode.specs.Answer.Characters.{is_tail, characters}
use Rattle.songcode.specs.Answer.Keys.{is_phrase}
use Rattle.songcode.specs.Complaints.{complain_if}
use Rattle.songcode.specs.Answer.Lines.{Line}
use Rattle.songcode.specs.Answer.Sections.{header_faults}
use Rattle.songcode.proofs.ListLaws.{by_cases}
use Rattle.settings.specs.Parts.{passing}
use Rattle.settings.specs.Phrases.{name_characters, is_header}
use Rattle.settings.proofs.PartLaws.{OfValues, taken_placed, left_placed}

abbrev pub Placeless : {A : Type 0} → (List Byte → A) → Type 0
Placeless f = (a : ℕ) (w : List ℕ) → f (placed a w) ≡ f (placed 0 w)

-- From any place to any other.
pub anywhere : {A : Type 0} (f : List Byte → A) → Placeless f → (a b : ℕ) (w : List ℕ) → f (placed a w) ≡ f (placed b w)
anywhere f h a b w = h a w ∙ sym (h b w)

module _ {A : Type 0} (f : List Byte → A) (h : Placeless f) (q : Byte → Bool) (p : ℕ → Bool) (v : OfValues q p) where
  pub taken_placeless : Placeless (λ bs. f (taken q bs))
  taken_placeless a w = rw (taken_placed q p v a w, taken_placed q p v 0 w) (h a (take (passing p w) w))

  pub left_placeless : Placeless (λ bs. f (left q bs))
  left_placeless a w = rw (left_placed q p v a w, left_placed q p v 0 w) (anywhere f h (a + passing p w) (0 + passing p w) (drop (passing p w) w))

pub not_byte_values : (c : ℕ) → OfValues (λ b. not (is_byte c b)) (λ b. not (eqb b c))
unfolding is_byte
not_byte_values c a b = refl

pub take_placed : (k a : ℕ) (w : List ℕ) → take k (placed a w) ≡ placed a (take k w)
unfolding placed
take_placed zero a w = refl
take_placed (suc k) a [] = refl
take_placed (suc k) a (b ∷ w) = rw (take_placed k (suc a) w)

pub drop_placed : (k a : ℕ) (w : List ℕ) → drop k (placed a w) ≡ placed (a + k) (drop k w)
unfolding placed
drop_placed zero a w = rw add-zero
drop_placed (suc k) a [] = refl
drop_placed (suc k) a (b ∷ w) = let e : a + suc k ≡ suc a + k = omega arith in rw e (drop_placed k (suc a) w)

characters_anywhere : (a b : ℕ) (w : List ℕ) → characters (placed a w) ≡ characters (placed b w)
unfolding characters placed provided◌then◌else◌
characters_anywhere a b [] = refl
characters_anywhere a b (x ∷ w) =
    by_cases (is_tail x) (λ e. rw e (characters_anywhere (suc a) (suc b) w)) (λ e. rw e (ap suc (characters_anywhere (suc a) (suc b) w)))

pub characters_placeless : Placeless characters
characters_placeless a w = characters_anywhere a 0 w

pub is_phrase_placeless : Placeless is_phrase
unfolding is_phrase
is_phrase_placeless a w = rw (characters_placeless a w)

pub name_characters_placeless : Placeless name_characters
unfolding name_characters
name_characters_placeless a w = taken_placeless characters characters_placeless _ _ (not_byte_values 33) a w

pub is_header_placeless : Placeless is_header
unfolding is_header
is_header_placeless a w = rw (name_characters_placeless a w)

-- A header's faults by the test.
pub header_faults_lem : (l : Line) → header_faults l ≡ complain_if (not (is_header l.text)) 8 l.number
unfolding header_faults is_header
header_faults_lem l = refl
