-- The tokens of words and of counts, as the code finds them.
use Prim.Native.Nat.{ℕ, suc, ◌+◌, ◌*◌, ◌-◌, ◌^◌, ◌<◌, ◌≤◌}
use mathlib.Core.Path.{◌≡◌, refl, sym, ap, ◌∙◌}
use mathlib.Core.List.{List, [], ◌∷◌}
use mathlib.Core.Bool.{true, false, and-false}
use mathlib.Core.Option.{Option, none, some}
use native.Mathlib.Omega.{arith}
use borrow.Author.Tests.{le-leb, lt-leb, eq-eqb, ne_eqb, eqb-true, eqb-false}
use lib.Pointwise.{pointwise}
use lib.Dec.{eqb}
use lib.ListN.{length, drop, length-drop}
use Rattle.songcode.specs.Lists.{provided◌then◌else◌, any}
use Rattle.songcode.specs.Bytes.{Byte, placed, ascii, same, is, is_byte}
use Rattle.songcode.specs.Answer.Numbers.{is_digit, digits, is_decimal, value_from, number_in, count_in, repeat_in}
use Rattle.songcode.specs.Answer.Chords.{bases, is_taken, longest_from, longest_base, chord_by, without_slip, chord_in}
use Rattle.songcode.specs.Answer.Chords as songcode
use Rattle.songcode.specs.Answer.Tables.{offset}
use Rattle.songcode.specs.Answer.Tokens.{chord_token, reference_token, closing_token, dollar_or, word_token}
use Rattle.songcode.proofs.ByteLaws.{values_placed, length_placed}
use Rattle.songcode.proofs.ListLaws.{by_cases}
use Rattle.songcode.proofs.NumbersAgree.{number_exact}
use Rattle.text.specs.Spans.{part}
use Rattle.text.proofs.WalkLaws.{part_length}
use Rattle.tokens.specs.declared.bases.Base.{Base}
use Rattle.std.specs.Prelude.{Some, None}
use Rattle.tokens.specs.Bases.{base_of, is_letter}
use Rattle.tokens.specs.Decimals.{number_of}
use Rattle.tokens.specs.TokenWords.{token_word, chord_word}
use Rattle.tokens.specs.Lexing.{is_slip_byte}
use Rattle.tokens.proofs.BaseLaws.{Fits, longest_fits}
use Rattle.tokens.proofs.RowLaws.{letter_range, not_letter, no_row}
use Rattle.tokens.proofs.TakenLaws.{slips_placed}
use Rattle.tokens.proofs.PartLaws.{placed_drop}

-- A number does not depend on the places of its digits.
pub digits_placed : (a b : ℕ) (bs : List ℕ) → digits (placed a bs) ≡ digits (placed b bs)
unfolding digits placed is_digit
digits_placed a b [] = refl
digits_placed a b (x ∷ bs) = rw (digits_placed (suc a) (suc b) bs)

value_placed : (a b v : ℕ) (bs : List ℕ) → value_from v (placed a bs) ≡ value_from v (placed b bs)
unfolding value_from placed
value_placed a b v [] = refl
value_placed a b v (x ∷ bs) = value_placed (suc a) (suc b) (v * 10 + (x - 48)) bs

pub decimal_placed : (a b : ℕ) (bs : List ℕ) → is_decimal (placed a bs) ≡ is_decimal (placed b bs)
unfolding is_decimal digits placed is_digit
decimal_placed a b [] = refl
decimal_placed a b (x ∷ []) = refl
decimal_placed a b (x ∷ y ∷ bs) = rw (digits_placed (suc (suc a)) (suc (suc b)) bs)

pub number_placed : (low high a b : ℕ) (bs : List ℕ) → number_in low high (placed a bs) ≡ number_in low high (placed b bs)
unfolding number_in
number_placed low high a b bs = rw (decimal_placed a b bs, value_placed a b 0 bs)

-- A number as it was read: the one that stands there, and in its range.
module _ (low high : ℕ) (bs : List Byte) where
  pub number_there : (n : ℕ) → Some n ≡ number_of (number_in low high bs) → number_in low high bs ≡ some n
  unfolding number_of
  number_there n e = go (number_in low high bs) e
    where
      go : (o : Option ℕ) → Some n ≡ number_of o → o ≡ some n
      go none e = let z : ◌≡◌ {A = ℕ} 0 1 = cc in absurd (omega arith)
      go (some m) e = let z : m ≡ n = cc in ap some z

  pub number_none : None ≡ number_of (number_in low high bs) → number_in low high bs ≡ none
  unfolding number_of
  number_none e = go (number_in low high bs) e
    where
      go : (o : Option ℕ) → None ≡ number_of o → o ≡ none
      go none e = refl
      go (some m) e = let z : ◌≡◌ {A = ℕ} 0 1 = cc in absurd (omega arith)

  pub number_high : (n : ℕ) → number_in low high bs ≡ some n → n ≤ high
  number_high n e = ((number_exact low high bs n).0 e).at_most

-- The token of a count, by the number read.
pub reference_is : (w : List ℕ) (n : ℕ) → Some n ≡ number_of (number_in 1 9999 (placed 0 w))
    → 55 * 2 ^ 26 + n ≡ token_word (reference_token (count_in (placed 0 w)))
unfolding token_word reference_token count_in
reference_is w n e = rw (number_there 1 9999 (placed 0 w) n e)

pub reference_wrong : (w : List ℕ) → None ≡ number_of (number_in 1 9999 (placed 0 w)) → 54 * 2 ^ 26 ≡ token_word (reference_token (count_in (placed 0 w)))
unfolding token_word reference_token count_in
reference_wrong w e = rw (number_none 1 9999 (placed 0 w) e)

pub closing_is : (w : List ℕ) (n : ℕ) → Some n ≡ number_of (number_in 2 9999 (placed 0 w))
    → 56 * 2 ^ 26 + n ≡ token_word (closing_token (repeat_in (placed 0 w)))
unfolding token_word closing_token repeat_in
closing_is w n e = rw (number_there 2 9999 (placed 0 w) n e)

pub closing_wrong : (w : List ℕ) → None ≡ number_of (number_in 2 9999 (placed 0 w)) → 54 * 2 ^ 26 ≡ token_word (closing_token (repeat_in (placed 0 w)))
unfolding token_word closing_token repeat_in
closing_wrong w e = rw (number_none 2 9999 (placed 0 w) e)

offset_none : (a : ℕ) (bs : List ℕ) → length bs ≡ 0 → offset (placed a bs) ≡ 0
unfolding offset placed
offset_none a [] h = refl
offset_none a (b ∷ bs) h = absurd (omega arith)

offset_first : (a : ℕ) (bs : List ℕ) → (length bs ≡ 0 → ⊥) → offset (placed a bs) ≡ a
unfolding offset placed
offset_first a [] h = absurd (h refl)
offset_first a (b ∷ bs) h = refl

-- The word of a chord, by the longest base of its bytes.
module _ (a : ℕ) (w : List ℕ) (b : Base) (e : b ≡ base_of (longest_from is_taken 0 bases w none)) where
  base_there : (b.length ≡ 0 → ⊥) → longest_from is_taken 0 bases w none ≡ some (record { number = b.number; length = b.length })
  unfolding base_of
  base_there h = go (longest_from is_taken 0 bases w none) e
    where
      go : (o : Option songcode.Base) → b ≡ base_of o → o ≡ some (record { number = b.number; length = b.length })
      go none e = absurd (h (ap (λ (c : Base). c.length) e))
      go (some c) e = rw e

  base_absent : b.length ≡ 0 → longest_from is_taken 0 bases w none ≡ none
  unfolding base_of
  base_absent h = go (longest_from is_taken 0 bases w none) refl e
    where
      go : (o : Option songcode.Base) → longest_from is_taken 0 bases w none ≡ o → b ≡ base_of o → o ≡ none
      go none f e = refl
      go (some c) f e =
          let l : b.length ≡ c.length = ap (λ (c : Base). c.length) e in
          let t = longest_fits w c f in
          absurd (omega arith)

  pub base_fits : (b.length ≡ 0 → ⊥) → Fits w (record { number = b.number; length = b.length })
  base_fits h = longest_fits w (record { number = b.number; length = b.length }) (base_there h)

  chord_of_lem : chord_in (placed a w) ≡ without_slip (chord_by (longest_from is_taken 0 bases w none) (placed a w))
  unfolding chord_in longest_base
  chord_of_lem = ap (λ l. without_slip (chord_by (longest_from is_taken 0 bases l none) (placed a w))) (values_placed a w)

  pub chord_none : b.length ≡ 0 → 54 * 2 ^ 26 ≡ token_word (chord_token (chord_in (placed a w)))
  unfolding token_word chord_token chord_by without_slip
  chord_none h = rw (chord_of_lem, base_absent h)

  module _ (h : b.length ≡ 0 → ⊥) where
    pub chord_long : 31 < length w - b.length → 54 * 2 ^ 26 ≡ token_word (chord_token (chord_in (placed a w)))
    unfolding token_word chord_token chord_by without_slip provided◌then◌else◌
    chord_long l =
        rw (chord_of_lem, base_there h, length-drop b.length (placed a w), length_placed a w, lt-leb (length w - b.length) 31 l)

    chord_by_lem : length w - b.length ≤ 31
        → chord_in (placed a w) ≡ without_slip (some (record { base = b.number; extension = placed (a + b.length) (drop b.length w) }))
    unfolding chord_by provided◌then◌else◌
    chord_by_lem l =
        rw (chord_of_lem, base_there h, length-drop b.length (placed a w), length_placed a w, le-leb (length w - b.length) 31 l, placed_drop a b.length w)

    pub chord_slip : length w - b.length ≤ 31 → any is_slip_byte (drop b.length w) ≡ true → 54 * 2 ^ 26 ≡ token_word (chord_token (chord_in (placed a w)))
    unfolding token_word chord_token without_slip provided◌then◌else◌
    chord_slip l t = rw (chord_by_lem l, slips_placed (a + b.length) (drop b.length w), t)

    chord_word_lem : length w - b.length ≤ 31 → any is_slip_byte (drop b.length w) ≡ false
        → token_word (chord_token (chord_in (placed a w)))
        ≡ b.number * 2 ^ 26 + offset (placed (a + b.length) (drop b.length w)) * 2 ^ 10 + (length w - b.length) * 2 ^ 5
    unfolding token_word chord_word chord_token without_slip provided◌then◌else◌
    chord_word_lem l t =
        rw (chord_by_lem l, slips_placed (a + b.length) (drop b.length w), t, length_placed (a + b.length) (drop b.length w), length-drop b.length w)

    pub chord_bare : length w - b.length ≡ 0 → b.number * 2 ^ 26 ≡ token_word (chord_token (chord_in (placed a w)))
    unfolding any
    chord_bare l =
        let o = offset_none (a + b.length) (drop b.length w) (length-drop b.length w ∙ l) in
        omega (arith, chord_word_lem (omega arith) (no_slip (drop b.length w) (length-drop b.length w ∙ l)))
      where
        no_slip : (v : List ℕ) → length v ≡ 0 → any is_slip_byte v ≡ false
        no_slip [] z = refl
        no_slip (x ∷ v) z = absurd (omega arith)

    pub chord_extended : (length w - b.length ≡ 0 → ⊥) → length w - b.length ≤ 31 → any is_slip_byte (drop b.length w) ≡ false
        → b.number * 2 ^ 26 + (a + b.length) * 2 ^ 10 + (length w - b.length) * 2 ^ 5 ≡ token_word (chord_token (chord_in (placed a w)))
    chord_extended z l t =
        let o = offset_first (a + b.length) (drop b.length w) (λ g. z (sym (length-drop b.length w) ∙ g)) in
        omega (arith, chord_word_lem l t)

dollar_chord : (b : Byte) (bs : List Byte) → is_byte 36 b ≡ false → dollar_or (b ∷ bs) ≡ chord_token (chord_in (b ∷ bs))
unfolding dollar_or provided◌then◌else◌
dollar_chord b bs e = ap (λ t. provided t then reference_token (count_in bs) else chord_token (chord_in (b ∷ bs))) e

-- The token of a word: one of three signs, or what its first byte says.
module _ (a : ℕ) (w : List ℕ) where
  pub word_again : true ≡ same (37 ∷ []) w → 62 * 2 ^ 26 ≡ token_word (word_token (placed a w))
  unfolding token_word word_token is ascii provided◌then◌else◌
  word_again e = rw (values_placed a w, ← e)

  module _ (p : false ≡ same (37 ∷ []) w) where
    pub word_silence : true ≡ same (95 ∷ []) w → 63 * 2 ^ 26 ≡ token_word (word_token (placed a w))
    unfolding token_word word_token is ascii provided◌then◌else◌
    word_silence e = rw (values_placed a w, ← p, ← e)

    module _ (q : false ≡ same (95 ∷ []) w) where
      pub word_remover : true ≡ same (61 ∷ []) w → 61 * 2 ^ 26 ≡ token_word (word_token (placed a w))
      unfolding token_word word_token is ascii provided◌then◌else◌
      word_remover e = rw (values_placed a w, ← p, ← q, ← e)

      module _ (r : false ≡ same (61 ∷ []) w) where
        word_other : word_token (placed a w) ≡ dollar_or (placed a w)
        unfolding word_token is ascii provided◌then◌else◌
        word_other = rw (values_placed a w, ← p, ← q, ← r)

        pub word_reference : (v : List ℕ) → w ≡ 36 ∷ v → token_word (reference_token (count_in (placed 0 v))) ≡ token_word (word_token (placed a w))
        unfolding dollar_or placed is_byte provided◌then◌else◌ count_in
        word_reference v e = rw (word_other, e, number_placed 1 9999 (suc a) 0 v)

        pub word_chord : (b : ℕ) (v : List ℕ) → w ≡ b ∷ v → (b ≡ 36 → ⊥)
            → token_word (chord_token (chord_in (placed a w))) ≡ token_word (word_token (placed a w))
        unfolding placed is_byte
        word_chord b v e n =
            rw (word_other, e) (ap token_word (sym (dollar_chord (record { place = a; value = b }) (placed (suc a) v) (ne_eqb b 36 n))))

-- A word that begins with one of the letters is no sign and no reference; one that does not is no chord.
other_sign : (sign b : ℕ) (v : List ℕ) → (b ≡ sign → ⊥) → false ≡ same (sign ∷ []) (b ∷ v)
unfolding same
other_sign sign b v n = rw (ne_eqb sign b (λ z. n (sym z)))

pub word_letter : (a b : ℕ) (v w : List ℕ) → w ≡ b ∷ v → is_letter b ≡ true
    → token_word (chord_token (chord_in (placed a w))) ≡ token_word (word_token (placed a w))
word_letter a b v w e l =
    let r = letter_range b l in
    rw e
    (word_chord a (b ∷ v) (other_sign 37 b v (λ z. omega arith)) (other_sign 95 b v (λ z. omega arith)) (other_sign 61 b v (λ z. omega arith)) b v refl
    (λ z. omega arith))

pub chord_no_letter : (a b : ℕ) (v w : List ℕ) → w ≡ b ∷ v → is_letter b ≡ false → 54 * 2 ^ 26 ≡ token_word (chord_token (chord_in (placed a w)))
unfolding base_of
chord_no_letter a b v w e l = rw e (chord_none a (b ∷ v) _ (ap base_of (sym (no_row (b ∷ v) (not_letter b l)))) refl)

-- A word of one byte.
pub sign_same : (sign : ℕ) (w : List ℕ) → pointwise eqb w (sign ∷ []) ≡ same (sign ∷ []) w
unfolding same
sign_same sign [] = refl
sign_same sign (b ∷ []) =
    by_cases
    (eqb b sign)
    (λ e. rw (e, eq-eqb sign b (sym (eqb-true b sign e))))
    (λ e. rw (e, ne_eqb sign b (λ z. eqb-false b sign e (sym z))))
sign_same sign (b ∷ c ∷ w) = rw (and-false (eqb b sign), and-false (eqb sign b)) refl

-- A base of a part of a text lies in the part.
pub base_inside : (s : List ℕ) (a e : ℕ) (b : Base) → b ≡ base_of (longest_from is_taken 0 bases (part a e s) none) → e ≤ length s → (b.length ≡ 0 → ⊥)
    → (b.number ≤ 33) × (b.length ≤ e - a)
base_inside s a e b h l n =
    let f = base_fits a (part a e s) b h n in
    (f.number, rw (part_length s a e l) at f.inside)
