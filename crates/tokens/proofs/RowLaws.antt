-- The rows of spellings as the code keeps them, and the base that the row of a letter holds.
use Prim.Native.Nat.{ℕ, zero, suc, ◌+◌, ◌-◌, ◌<◌, ◌≤◌}
use mathlib.Core.Path.{◌≡◌, refl, sym, ap, ◌∙◌}
use mathlib.Core.List.{List, [], ◌∷◌}
use mathlib.Core.Bool.{Bool, true, false, ◌&&◌}
use mathlib.Core.Option.{Option, none}
use native.Mathlib.Omega.{arith}
use native.Mathlib.Nat.{add-zero}
use borrow.Author.Tests.{leb-true, le-leb, eqb-true, eqb-false, ne_eqb}
use lib.Dec.{eqb, leb}
use lib.ListN.{get_or}
use Rattle.songcode.specs.Lists.{provided◌then◌else◌, every}
use Rattle.songcode.specs.Bytes.{begins, ascii}
use Rattle.songcode.specs.Answer.Chords.{bases, ends_in_m, is_passed_over, is_taken, longer, longest_from}
use Rattle.songcode.specs.Answer.Chords as songcode
use Rattle.songcode.proofs.ListLaws.{by_cases, both_pass}
use Rattle.text.proofs.TestLaws.{false_not_true}
use Rattle.tokens.specs.declared.bases.Base.{Base}
use Rattle.tokens.specs.Bases.{base_of, is_letter, first_of, row_of, has_minor, sign_of, major_length, with_minor}

seven : (P : ℕ → Type 0) → P 0 → P 1 → P 2 → P 3 → P 4 → P 5 → P 6 → (r : ℕ) → r < 7 → P r
seven P a b c d e f g zero h = a
seven P a b c d e f g (suc zero) h = b
seven P a b c d e f g (suc (suc zero)) h = c
seven P a b c d e f g (suc (suc (suc zero))) h = d
seven P a b c d e f g (suc (suc (suc (suc zero)))) h = e
seven P a b c d e f g (suc (suc (suc (suc (suc zero))))) h = f
seven P a b c d e f g (suc (suc (suc (suc (suc (suc zero)))))) h = g
seven P a b c d e f g (suc (suc (suc (suc (suc (suc (suc r))))))) h = let z : ⊥ = omega arith in absurd z

-- The `m` of a minor chord, by the bytes that stand there.
pub minor_other : (t : List ℕ) → (get_or t 0 0 ≡ 109 → ⊥) → false ≡ has_minor t
unfolding has_minor begins ascii
minor_other [] m = refl
minor_other (x ∷ t) m = rw (ne_eqb 109 x (λ z. m (sym z)))

pub minor_here : (t : List ℕ) → get_or t 0 0 ≡ 109 → (get_or t 1 0 ≡ 97 → get_or t 2 0 ≡ 106 → ⊥) → true ≡ has_minor t
unfolding has_minor begins ascii
minor_here [] m n = absurd (omega arith)
minor_here (x ∷ []) m n = rw m
minor_here (x ∷ a ∷ []) m n = rw m (by_cases (eqb 97 a) (λ e. rw e) (λ e. rw e))
minor_here (x ∷ a ∷ j ∷ t) m n =
    rw m
    (by_cases
    (eqb 97 a)
    (λ e. rw (e, ne_eqb 106 j (λ z. n (sym (eqb-true 97 a e)) (sym z))))
    (λ e. rw e))

pub minor_maj : (t : List ℕ) → get_or t 0 0 ≡ 109 → get_or t 1 0 ≡ 97 → get_or t 2 0 ≡ 106 → false ≡ has_minor t
unfolding has_minor begins ascii
minor_maj [] m a j = refl
minor_maj (x ∷ []) m a j = absurd (omega arith)
minor_maj (x ∷ y ∷ []) m a j = absurd (omega arith)
minor_maj (x ∷ y ∷ z ∷ t) m a j = rw (m, a, j)

-- The row of a letter is enough: no spelling of another row fits.
row_enough : (r : ℕ) → r < 7 → (bs : List ℕ) → longest_from is_taken 0 bases ((65 + r) ∷ bs) none
    ≡ longest_from is_taken (first_of r) (row_of r) ((65 + r) ∷ bs) none
unfolding longest_from bases row_of first_of is_taken begins provided◌then◌else◌
row_enough =
    seven
    (λ r. (bs : List ℕ) → longest_from is_taken 0 bases ((65 + r) ∷ bs) none ≡ longest_from is_taken (first_of r) (row_of r) ((65 + r) ∷ bs) none)
    (λ bs. refl)
    (λ bs. refl)
    (λ bs. refl)
    (λ bs. refl)
    (λ bs. refl)
    (λ bs. refl)
    (λ bs. refl)

-- A word that begins with none of the seven letters has no base.
abbrev letter : List ℕ → Bool
letter s = leb 65 (get_or s 0 0) && leb (get_or s 0 0) 71

other_letter : (s w : List ℕ) → (65 ≤ get_or w 0 0 → get_or w 0 0 ≤ 71 → ⊥) → letter s ≡ true → is_taken s w ≡ false
unfolding is_taken begins
other_letter [] w h e = absurd (false_not_true e)
other_letter (x ∷ s) [] h e = refl
other_letter (x ∷ s) (b ∷ w) h e =
    let l = both_pass (leb 65 x) (leb x 71) e in
    let p = leb-true 65 x l.0 in
    let q = leb-true x 71 l.1 in
    rw (ne_eqb x b (λ z. h (omega arith) (omega arith)))

none_fits : (n : ℕ) (ss : List (List ℕ)) (w : List ℕ) (o : Option songcode.Base) → (65 ≤ get_or w 0 0 → get_or w 0 0 ≤ 71 → ⊥) → every letter ss ≡ true
    → longest_from is_taken n ss w o ≡ o
unfolding longest_from every provided◌then◌else◌
none_fits n [] w o h e = refl
none_fits n (s ∷ ss) w o h e =
    let l = both_pass (letter s) (every letter ss) e in
    rw (other_letter s w h l.0) (none_fits (suc n) ss w o h l.1)

pub no_row : (w : List ℕ) → (65 ≤ get_or w 0 0 → get_or w 0 0 ≤ 71 → ⊥) → longest_from is_taken 0 bases w none ≡ none
unfolding bases every
no_row w h = none_fits 0 bases w none h refl

-- The base by what stands behind the letter of a row is the longest of the row.
abbrev in_row : ℕ → List ℕ → Base
in_row r w = with_minor r (first_of r + sign_of r (get_or w 1 0)) (major_length (sign_of r (get_or w 1 0))) w

abbrev Held : ℕ → List ℕ → Type 0
Held r bs = in_row r ((65 + r) ∷ bs) ≡ base_of (longest_from is_taken (first_of r) (row_of r) ((65 + r) ∷ bs) none)

held_none : (r : ℕ) → r < 7 → Held r []
unfolding sign_of major_length with_minor has_minor base_of longest_from is_taken is_passed_over ends_in_m begins longer provided◌then◌else◌ row_of first_of
    ascii
held_none = seven (λ r. Held r []) refl refl refl refl refl refl refl

held_sharp : (t : List ℕ) (m maj : Bool) → begins (ascii "m") t ≡ m → begins (ascii "maj") t ≡ maj → (r : ℕ) → r < 7 → Held r (35 ∷ t)
unfolding sign_of major_length with_minor has_minor base_of longest_from is_taken is_passed_over ends_in_m begins longer provided◌then◌else◌ row_of first_of
    ascii
held_sharp t false maj e f = seven (λ r. Held r (35 ∷ t)) (simp e) refl (simp e) (simp e) refl (simp e) (simp e)
held_sharp t true false e f = seven (λ r. Held r (35 ∷ t)) (simp (e, f)) refl (simp (e, f)) (simp (e, f)) refl (simp (e, f)) (simp (e, f))
held_sharp t true true e f = seven (λ r. Held r (35 ∷ t)) (simp (e, f)) refl (simp (e, f)) (simp (e, f)) refl (simp (e, f)) (simp (e, f))

held_flat : (t : List ℕ) (m maj : Bool) → begins (ascii "m") t ≡ m → begins (ascii "maj") t ≡ maj → (r : ℕ) → r < 7 → Held r (98 ∷ t)
unfolding sign_of major_length with_minor has_minor base_of longest_from is_taken is_passed_over ends_in_m begins longer provided◌then◌else◌ row_of first_of
    ascii
held_flat t false maj e f = seven (λ r. Held r (98 ∷ t)) (simp e) (simp e) refl (simp e) (simp e) refl (simp e)
held_flat t true false e f = seven (λ r. Held r (98 ∷ t)) (simp (e, f)) (simp (e, f)) refl (simp (e, f)) (simp (e, f)) refl (simp (e, f))
held_flat t true true e f = seven (λ r. Held r (98 ∷ t)) (simp (e, f)) (simp (e, f)) refl (simp (e, f)) (simp (e, f)) refl (simp (e, f))

held_minor : (t : List ℕ) (aj : Bool) → begins (ascii "aj") t ≡ aj → (r : ℕ) → r < 7 → Held r (109 ∷ t)
unfolding sign_of major_length with_minor has_minor base_of longest_from is_taken is_passed_over ends_in_m begins longer provided◌then◌else◌ row_of first_of
    ascii
held_minor t false e = seven (λ r. Held r (109 ∷ t)) (simp e) (simp e) (simp e) (simp e) (simp e) (simp e) (simp e)
held_minor t true e = seven (λ r. Held r (109 ∷ t)) (simp e) (simp e) (simp e) (simp e) (simp e) (simp e) (simp e)

module _ (c : ℕ) (t : List ℕ) (sharp : eqb c 35 ≡ false) (flat : eqb c 98 ≡ false) (minor : eqb c 109 ≡ false) where
  held_other : (r : ℕ) → r < 7 → Held r (c ∷ t)
  unfolding sign_of major_length with_minor has_minor base_of longest_from is_taken is_passed_over ends_in_m begins longer provided◌then◌else◌ row_of first_of
      ascii
  held_other =
      let s : eqb 35 c ≡ false = ne_eqb 35 c (λ z. eqb-false c 35 sharp (sym z)) in
      let f : eqb 98 c ≡ false = ne_eqb 98 c (λ z. eqb-false c 98 flat (sym z)) in
      let m : eqb 109 c ≡ false = ne_eqb 109 c (λ z. eqb-false c 109 minor (sym z)) in
      seven (λ r. Held r (c ∷ t)) (simp (sharp, flat, s, f, m)) (simp (sharp, flat, f, m)) (simp (sharp, flat, s, m))
      (simp (sharp, flat, s, f, m)) (simp (sharp, flat, f, m)) (simp (sharp, flat, s, m)) (simp (sharp, flat, s, f, m))

held : (bs : List ℕ) (r : ℕ) → r < 7 → Held r bs
held [] = held_none
held (c ∷ t) =
    by_cases
    (eqb c 35)
    (λ e. rw (eqb-true c 35 e) (held_sharp t _ _ refl refl))
    (λ s. by_cases
    (eqb c 98)
    (λ e. rw (eqb-true c 98 e) (held_flat t _ _ refl refl))
    (λ f. by_cases
    (eqb c 109)
    (λ e. rw (eqb-true c 109 e) (held_minor t _ refl))
    (λ m. held_other c t s f m)))

-- A byte is one of the seven letters or none of them.
pub letter_range : (b : ℕ) → is_letter b ≡ true → (65 ≤ b) × (b ≤ 71)
unfolding is_letter
letter_range b e = let p = both_pass (leb 65 b) (leb b 71) e in (leb-true 65 b p.0, leb-true b 71 p.1)

pub not_letter : (b : ℕ) → is_letter b ≡ false → 65 ≤ b → b ≤ 71 → ⊥
unfolding is_letter
not_letter b e p q = false_not_true (sym e ∙ simp (le-leb 65 b p, le-leb b 71 q))

pub no_letter : (b : ℕ) → 65 ≤ b → b ≤ 71 → (b ≡ 65 → ⊥) → (b ≡ 66 → ⊥) → (b ≡ 67 → ⊥) → (b ≡ 68 → ⊥) → (b ≡ 69 → ⊥) → (b ≡ 70 → ⊥) → (b ≡ 71 → ⊥) → ⊥
no_letter b l h =
    let k : b - 65 < 7 = omega arith in
    let e : b ≡ 65 + (b - 65) = omega arith in
    λ m n o p q r s. seven (λ k. b ≡ 65 + k → ⊥) m n o p q r s (b - 65) k e

pub letter_row : (b : ℕ) → is_letter b ≡ true → b - 65 < 7
letter_row b e = let l = letter_range b e in omega arith

-- How far the numbers of the rows go.
pub first_most : (r : ℕ) → r < 7 → first_of r ≤ 28
unfolding first_of
first_most = seven (λ r. first_of r ≤ 28) (omega arith) (omega arith) (omega arith) (omega arith) (omega arith) (omega arith) (omega arith)

pub sign_most : (r b : ℕ) → r < 7 → sign_of r b ≤ 2
unfolding sign_of provided◌then◌else◌
sign_most r b =
    by_cases
    (eqb b 35)
    (λ e. rw e (seven (λ r. get_or (1 ∷ 0 ∷ 1 ∷ 2 ∷ 0 ∷ 1 ∷ 2 ∷ []) r 0 ≤ 2) (omega arith) (omega arith) (omega arith) (omega arith) (omega arith)
    (omega arith) (omega arith) r))
    (λ e. by_cases
    (eqb b 98)
    (λ f. rw (e, f) (seven (λ r. get_or (2 ∷ 1 ∷ 0 ∷ 1 ∷ 1 ∷ 0 ∷ 1 ∷ []) r 0 ≤ 2) (omega arith) (omega arith) (omega arith) (omega arith) (omega arith)
    (omega arith) (omega arith) r))
    (λ f. rw (e, f) (λ h. omega arith)))

pub minor_most : (r : ℕ) → r < 7 → get_or (3 ∷ 2 ∷ 2 ∷ 3 ∷ 2 ∷ 2 ∷ 3 ∷ []) r 0 ≤ 3
minor_most = seven (λ r. get_or (3 ∷ 2 ∷ 2 ∷ 3 ∷ 2 ∷ 2 ∷ 3 ∷ []) r 0 ≤ 3) (omega arith) (omega arith) (omega arith) (omega arith) (omega arith) (omega arith)
    (omega arith)

-- A word that begins with a letter has its base in the letter's row.
pub row_found : (r : ℕ) (w : List ℕ) → r < 7 → get_or w 0 0 ≡ 65 + r → in_row r w ≡ base_of (longest_from is_taken 0 bases w none)
row_found r [] h e = absurd (omega arith)
row_found r (b ∷ bs) h e = rw e (held bs r h ∙ ap base_of (sym (row_enough r h bs)))

-- A letter alone is a base.
pub letter_alone : (b : ℕ) → is_letter b ≡ true → record { number = first_of (b - 65); length = 1 } ≡ base_of (longest_from is_taken 0 bases (b ∷ []) none)
unfolding sign_of major_length with_minor has_minor begins ascii provided◌then◌else◌
letter_alone b l =
    let p = letter_range b l in
    rw (← (add-zero (first_of (b - 65)))) (row_found (b - 65) (b ∷ []) (letter_row b l) (omega arith))
