-- A cut by the place of its dash.
use Prim.Native.Nat.{ℕ, suc, ◌+◌, ◌<◌, ◌≤◌}
use mathlib.Core.Path.{◌≡◌, refl, sym, ◌∙◌}
use mathlib.Core.List.{List, [], ◌∷◌}
use mathlib.Core.Bool.{not}
use mathlib.Core.Option.{Option, none, some, bind}
use native.Mathlib.Omega.{arith}
use native.Mathlib.Numerals.{add-one}
use lib.Dec.{eqb}
use lib.ListN.{length, get_or, take, drop, drop_of_length-le}
use lib.Seq.{take_all, drop-cons, length-take-le}
use Rattle.songcode.specs.Lists.{taken, left}
use Rattle.songcode.specs.Bytes.{Byte, placed, is_byte}
use Rattle.songcode.specs.Answer.Numbers.{count_in}
use Rattle.songcode.specs.Answer.Modifiers.{is_dash, cut, cut_by, cut_in}
use Rattle.settings.specs.Parts.{length_before}
use Rattle.settings.specs.Cuts.{cut_is, CutFits, cut_pair}
use Rattle.settings.proofs.PartLaws.{OfValues, taken_placed, left_placed}
use Rattle.settings.proofs.PlaceLaws.{Placeless, anywhere}
use Rattle.settings.proofs.NumberLaws.{count_in_placeless, count_in_range}

not_dash_values : OfValues (λ b. not (is_dash b)) (λ b. not (eqb b 45))
unfolding is_dash is_byte
not_dash_values a b = refl

-- The text before the first dash, and the rest.
cut_parts : (a : ℕ) (w : List ℕ) (q : ℕ) → q ≡ length_before 45 w → cut_in (placed a w) ≡ cut_by (placed a (take q w)) (placed (a + q) (drop q w))
unfolding cut_in
cut_parts a w q e = rw (taken_placed _ _ not_dash_values a w, left_placed _ _ not_dash_values a w, e)

-- With something before the dash.
cut_front_lem : (a b : ℕ) (m : List ℕ) (d : ℕ) (w : List ℕ) → 0 < length m
    → cut_by (placed a m) (placed b (d ∷ w)) ≡ cut_pair (count_in (placed 0 m)) (count_in (placed 0 w))
unfolding cut_by cut_pair placed bind
cut_front_lem a b [] d w h = let z : ⊥ = omega arith in absurd z
cut_front_lem a b (x ∷ m) d w h = rw (count_in_placeless (suc b) w, count_in_placeless a (x ∷ m))

module _ (a : ℕ) (w : List ℕ) where
  pub cut_whole : length w ≡ length_before 45 w → cut_in (placed a w) ≡ cut_pair (count_in (placed 0 w)) (some 0)
  unfolding cut_by cut_pair placed bind
  cut_whole e =
      cut_parts a w (length w) e
      ∙ rw (drop_of_length-le w {i = length w} (omega arith), take_all (length w) w (omega arith), count_in_placeless a w)

  pub cut_beats : 0 ≡ length_before 45 w → 0 < length w → cut_in (placed a w) ≡ cut_pair (some 0) (count_in (placed 0 (drop 1 w)))
  unfolding cut_by cut_pair placed bind
  cut_beats e h = cut_parts a w 0 e ∙ rw (drop-cons w 0 0 h, count_in_placeless (suc (a + 0)) (drop 1 w))

  pub cut_both : (q : ℕ) → q ≡ length_before 45 w → 0 < q → q < length w
      → cut_in (placed a w) ≡ cut_pair (count_in (placed 0 (take q w))) (count_in (placed 0 (drop (q + 1) w)))
  cut_both q e h k =
      let n = length-take-le q w (omega arith) in
      cut_parts a w q e
      ∙ rw (drop-cons w q 0 k, add-one q) (cut_front_lem a (a + q) (take q w) (get_or w q 0) (drop (suc q) w) (omega arith))

cut_anywhere : (a b c d : ℕ) (m w : List ℕ) → cut_by (placed a m) (placed b w) ≡ cut_by (placed c m) (placed d w)
unfolding cut_by placed
cut_anywhere a b c d m [] = rw (anywhere count_in count_in_placeless a c m)
cut_anywhere a b c d [] (y ∷ w) = rw (anywhere count_in count_in_placeless (suc b) (suc d) w)
cut_anywhere a b c d (x ∷ m) (y ∷ w) = cut_front_lem a b (x ∷ m) y w (omega arith) ∙ sym (cut_front_lem c d (x ∷ m) y w (omega arith))

pub cut_in_placeless : Placeless cut_in
cut_in_placeless a w =
    cut_parts a w (length_before 45 w) refl
    ∙ cut_anywhere a (a + length_before 45 w) 0 (0 + length_before 45 w) (take (length_before 45 w) w) (drop (length_before 45 w) w)
    ∙ sym (cut_parts 0 w (length_before 45 w) refl)

-- A cut that is read fits.
abbrev Small : Option ℕ → Type 0
Small o = (n : ℕ) → o ≡ some n → n ≤ 9999

small_count : (bs : List Byte) → Small (count_in bs)
small_count bs n e = (count_in_range bs e).1

small_zero : Small (some 0)
small_zero n e = let k : 0 ≡ n = cc in omega arith

pair_fits : (o p : Option ℕ) → Small o → Small p → CutFits (cut_is (cut_pair o p))
unfolding cut_is CutFits cut_pair bind cut
pair_fits none p f g = tt
pair_fits (some m) none f g = tt
pair_fits (some m) (some b) f g = (f m refl, g b refl)

by_fits : (m l : List Byte) → CutFits (cut_is (cut_by m l))
unfolding cut_by cut_pair bind
by_fits m [] = pair_fits (count_in m) (some 0) (small_count m) small_zero
by_fits [] (d ∷ b) = pair_fits (some 0) (count_in b) small_zero (small_count b)
by_fits (x ∷ m) (d ∷ b) = pair_fits (count_in (x ∷ m)) (count_in b) (small_count (x ∷ m)) (small_count b)

pub cut_fits : (bs : List Byte) → CutFits (cut_is (cut_in bs))
unfolding cut_in
cut_fits bs = by_fits (taken (λ b. not (is_dash b)) bs) (left (λ b. not (is_dash b)) bs)
