-- Decimals, digit by digit; a number's range; that a number does not depend on the places of its digits.
use Prim.Native.Nat.{ℕ, suc, ◌+◌, ◌*◌, ◌-◌, ◌<◌, ◌≤◌}
use mathlib.Core.Path.{◌≡◌, refl, sym, ◌∙◌}
use mathlib.Core.List.{List, [], ◌∷◌}
use mathlib.Core.Bool.{Bool, true, false, ◌&&◌, and-false}
use mathlib.Core.Option.{Option, none, some}
use native.Mathlib.Omega.{arith}
use native.Mathlib.Numerals.{add-one}
use borrow.Author.Tests.{le-leb, lt-leb, eq-eqb, ne_eqb}
use lib.Dec.{leb}
use lib.ListN.{length, get_or, drop, drop_of_length-le}
use lib.Seq.{drop-cons}
use Rattle.songcode.specs.Lists.{provided◌then◌else◌}
use Rattle.songcode.specs.Bytes.{Byte, placed}
use Rattle.songcode.specs.Answer.Numbers.{is_digit, digits, is_decimal, value_from, number_in}
use Rattle.songcode.proofs.NumbersAgree.{number_exact}
use Rattle.std.specs.Prelude.{Some, None}
use Rattle.tokens.specs.Decimals.{number_of, digits_from}

value_grows : (v : ℕ) (bs : List Byte) → v ≤ value_from v bs
unfolding value_from
value_grows v [] = omega arith
value_grows v (b ∷ bs) = let h = value_grows (v * 10 + (b.value - 48)) bs in omega arith

module _ (w : List ℕ) (i v : ℕ) where
  pub digits_over : length w ≤ i → v ≤ 9999 → digits_from v (placed i (drop i w)) ≡ Some v
  unfolding digits_from placed digits value_from provided◌then◌else◌
  digits_over h l = rw (drop_of_length-le w h, le-leb v 9999 l)

  module _ (h : i < length w) where
    pub digits_other : (leb 48 (get_or w i 0) && leb (get_or w i 0) 57) ≡ false → digits_from v (placed i (drop i w)) ≡ None
    unfolding digits_from placed digits is_digit provided◌then◌else◌
    digits_other e = rw (drop-cons w i 0 h, e)

    pub digits_past : 999 < v → digits_from v (placed i (drop i w)) ≡ None
    unfolding digits_from placed value_from provided◌then◌else◌
    digits_past l =
        let d = v * 10 + (get_or w i 0 - 48) in
        let g = value_grows d (placed (suc i) (drop (suc i) w)) in
        rw (drop-cons w i 0 h, lt-leb (value_from d (placed (suc i) (drop (suc i) w))) 9999 (omega arith), and-false)

    pub digits_more : 48 ≤ get_or w i 0 → get_or w i 0 ≤ 57
        → digits_from v (placed i (drop i w)) ≡ digits_from (v * 10 + (get_or w i 0 - 48)) (placed (i + 1) (drop (i + 1) w))
    unfolding digits_from placed digits is_digit value_from
    digits_more p q = rw (drop-cons w i 0 h, le-leb 48 (get_or w i 0) p, le-leb (get_or w i 0) 57 q, add-one i)

-- A text that is a decimal where it is digits.
decimal_is : (bs : List Byte) → is_decimal bs ≡ digits bs → digits_from 0 bs ≡ number_of (number_in 0 9999 bs)
unfolding digits_from number_in number_of provided◌then◌else◌
decimal_is bs e =
    let v = value_from 0 bs in
    rw (e, le-leb 0 v (omega arith)) (choice (digits bs) (leb v 9999) v)
  where
    choice : (s t : Bool) (v : ℕ) → (provided s && t then Some v else None) ≡ number_of (provided s && true && t then some v else none)
    choice true true v = refl
    choice true false v = refl
    choice false t v = refl

pub decimal_empty : (w : List ℕ) → length w ≡ 0 → None ≡ number_of (number_in 0 9999 (placed 0 w))
unfolding number_in is_decimal placed provided◌then◌else◌ number_of
decimal_empty [] h = refl
decimal_empty (b ∷ w) h = absurd (omega arith)

pub decimal_single : (w : List ℕ) → length w ≡ 1 → digits_from 0 (placed 0 w) ≡ number_of (number_in 0 9999 (placed 0 w))
unfolding is_decimal placed digits
decimal_single [] h = absurd (omega arith)
decimal_single (b ∷ []) h = decimal_is (placed 0 (b ∷ [])) (and_true (is_digit (record { place = 0; value = b })))
  where
    and_true : (t : Bool) → t ≡ t && true
    and_true true = refl
    and_true false = refl
decimal_single (b ∷ c ∷ w) h = absurd (omega arith)

pub decimal_zero : (w : List ℕ) → (length w ≡ 0 → ⊥) → (length w ≡ 1 → ⊥) → get_or w 0 0 ≡ 48 → None ≡ number_of (number_in 0 9999 (placed 0 w))
unfolding number_in is_decimal placed provided◌then◌else◌ number_of
decimal_zero [] h g e = absurd (h refl)
decimal_zero (b ∷ []) h g e = absurd (g refl)
decimal_zero (b ∷ c ∷ w) h g e = rw (eq-eqb b 48 e)

pub decimal_more : (w : List ℕ) → (length w ≡ 0 → ⊥) → (length w ≡ 1 → ⊥) → (get_or w 0 0 ≡ 48 → ⊥)
    → digits_from 0 (placed 0 w) ≡ number_of (number_in 0 9999 (placed 0 w))
unfolding is_decimal placed
decimal_more [] h g e = absurd (h refl)
decimal_more (b ∷ []) h g e = absurd (g refl)
decimal_more (b ∷ c ∷ w) h g e = decimal_is (placed 0 (b ∷ c ∷ w)) (rw (ne_eqb b 48 e))

-- A number's range inside 0 to 9,999.
module _ (low high : ℕ) (bs : List Byte) where
  pub number_not : high ≤ 9999 → None ≡ number_of (number_in 0 9999 bs) → None ≡ number_of (number_in low high bs)
  unfolding number_of
  number_not h e = go (number_in low high bs) refl
    where
      go : (o : Option ℕ) → number_in low high bs ≡ o → None ≡ number_of o
      go none f = refl
      go (some n) f =
          let d = (number_exact low high bs n).0 f in
          let g = (number_exact 0 9999 bs n).1 (record { decimal = d.decimal; says = d.says; at_least = omega arith; at_most = omega arith }) in
          rw g at e

  pub number_is : (n : ℕ) → Some n ≡ number_of (number_in 0 9999 bs)
      → number_of (number_in low high bs) ≡ (provided leb low n && leb n high then Some n else None)
  unfolding number_of number_in provided◌then◌else◌
  number_is n e = go (number_in 0 9999 bs) refl e
    where
      choice : (t : Bool) → number_of (provided t then some n else none) ≡ (provided t then Some n else None)
      choice true = refl
      choice false = refl

      go : (o : Option ℕ) → number_in 0 9999 bs ≡ o → Some n ≡ number_of o
          → number_of (number_in low high bs) ≡ (provided leb low n && leb n high then Some n else None)
      go none f e = let z : ◌≡◌ {A = ℕ} 0 1 = cc in absurd (omega arith)
      go (some m) f e =
          let k : m ≡ n = cc in
          let d = (number_exact 0 9999 bs m).0 f in
          let s : value_from 0 bs ≡ n = sym d.says ∙ k in
          rw (d.decimal, s) (choice (leb low n && leb n high))
