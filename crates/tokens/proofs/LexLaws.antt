-- The tokens of a part of a text, from its first byte on.
use Prim.Native.Nat.{ℕ, zero, suc, ◌+◌, ◌-◌, ◌<◌, ◌≤◌}
use mathlib.Core.Path.{◌≡◌, refl, sym, ap, ◌∙◌}
use mathlib.Core.List.{List, [], ◌∷◌, ◌++◌}
use mathlib.Core.Bool.{Bool, true, false, not}
use native.Mathlib.Omega.{arith}
use native.Mathlib.Numerals.{add-one}
use native.Mathlib.Nat.{add-zero, add-suc, suc-add}
use borrow.Author.Tests.{ne_eqb, eqb-true, eqb-false, lt-ltb}
use lib.Dec.{eqb, ltb}
use lib.ListN.{length, get_or, take, drop, take-append-drop}
use lib.Seq.{take-take, get_or-drop, get_or-take, length-take-le}
use Rattle.std.proofs.Common.{Option}
use Rattle.std.specs.List.{position}
use Rattle.std.specs.Option.{unwrap_or}
use Rattle.text.proofs.FirstLaws.{counted}
use Rattle.songcode.specs.Lists.{provided◌then◌else◌}
use Rattle.songcode.specs.Bytes.{Byte, placed, is_blank, is_byte}
use Rattle.songcode.specs.Answer.Numbers.{repeat_in}
use Rattle.songcode.specs.Description.WrittenPattern.{Plain, NoPlain}
use Rattle.songcode.specs.Answer.Tokens.{Token, semicolon, colon, opens, Class, blank, semi, double, bracket, closing, plain, class, closing_token, word_token}
use Rattle.songcode.specs.Answer.Tokens.{word, lexed_by, lexed, tokens}
use Rattle.songcode.proofs.ByteLaws.{placed_append}
use Rattle.songcode.proofs.ListLaws.{by_cases, true_is_not_false}
use Rattle.songcode.proofs.TokensAgree.{lexed_behind}
use Rattle.text.specs.Spans.{part, front_blanks}
use Rattle.text.specs.Spans as text
use Rattle.text.proofs.WalkLaws.{part_length}
use Rattle.tokens.specs.Lexing.{plain_class, is_plain, plain_length, tokens_from}
use Rattle.tokens.specs.Bases.{is_letter}
use Rattle.tokens.proofs.RowLaws.{letter_range}
use Rattle.tokens.proofs.PartLaws.{part_cons, part_none, part_drop}
use Rattle.tokens.proofs.WordLaws.{number_placed}

-- Plain bytes from a place on, one at a time.
module _ (s : List ℕ) (i stop : ℕ) where
  pub plain_over : stop ≤ i → plain_length (part i stop s) ≡ 0
  unfolding plain_length
  plain_over h = rw (part_none s i stop h)

  module _ (h : i < stop) (l : stop ≤ length s) where
    pub plain_stop : is_plain (get_or s i 0) ≡ false → plain_length (part i stop s) ≡ 0
    unfolding plain_length provided◌then◌else◌
    plain_stop e = rw (part_cons s i stop h l, e)

    pub plain_more : is_plain (get_or s i 0) ≡ true → plain_length (part i stop s) ≡ 1 + plain_length (part (i + 1) stop s)
    unfolding plain_length provided◌then◌else◌
    plain_more e = rw (part_cons s i stop h l, e) (omega arith)

    pub plain_first : is_plain (get_or s i 0) ≡ ltb 0 (plain_length (part i stop s))
    plain_first =
        by_cases
        (is_plain (get_or s i 0))
        (λ e. let m = plain_more e in e ∙ sym (lt-ltb 0 (plain_length (part i stop s)) (omega arith)))
        (λ e. e ∙ sym (ap (ltb 0) (plain_stop e)))

-- What a byte is, by its value.
class_plain : (at b : ℕ) → is_plain b ≡ true → class (record { place = at; value = b }) ≡ plain
unfolding is_plain class is_blank is_byte
class_plain at b e = go (class (record { place = at; value = b })) e
  where
    go : (k : Class) → plain_class k ≡ true → k ≡ plain
    go blank e = true_is_not_false e refl
    go semi e = true_is_not_false e refl
    go double e = true_is_not_false e refl
    go bracket e = true_is_not_false e refl
    go closing e = true_is_not_false e refl
    go plain e = refl

class_other : (at b : ℕ) → is_plain b ≡ false → class (record { place = at; value = b }) ≡ plain → ⊥
unfolding is_plain class is_blank is_byte
class_other at b e p = true_is_not_false (ap plain_class p) e

plains : (at : ℕ) (bs : List ℕ) → Plain (placed at (take (plain_length bs) bs))
unfolding Plain placed plain_length provided◌then◌else◌
plains at [] = tt
plains at (b ∷ bs) = by_cases (is_plain b) (λ e. rw e (class_plain at b e, plains (suc at) bs)) (λ e. rw e tt)

stops : (at : ℕ) (bs : List ℕ) → NoPlain (placed at (drop (plain_length bs) bs))
unfolding NoPlain placed plain_length provided◌then◌else◌
stops at [] = tt
stops at (b ∷ bs) = by_cases (is_plain b) (λ e. rw e (stops at bs)) (λ e. rw e (class_other at b e))

pub plain_le : (bs : List ℕ) → plain_length bs ≤ length bs
unfolding plain_length provided◌then◌else◌
plain_le [] = omega arith
plain_le (b ∷ bs) = let h = plain_le bs in by_cases (is_plain b) (λ e. rw e (omega arith)) (λ e. rw e (omega arith))

split : (at : ℕ) (bs : List ℕ) → placed at bs ≡ placed at (take (plain_length bs) bs) ++ placed (at + plain_length bs) (drop (plain_length bs) bs)
split at bs =
    let k = plain_length bs in
    let l : length (take k bs) ≡ k = length-take-le k bs (plain_le bs) in
    ap (placed at) (sym (take-append-drop k bs)) ∙ placed_append at (take k bs) (drop k bs) ∙ rw l

-- A shorter text has as many in front, if they all stand in it.
plain_within : (m : ℕ) (bs : List ℕ) → plain_length bs ≤ m → plain_length (take m bs) ≡ plain_length bs
unfolding plain_length provided◌then◌else◌
plain_within zero [] h = refl
plain_within (suc m) [] h = refl
plain_within zero (b ∷ bs) h = omega arith
plain_within (suc m) (b ∷ bs) h =
    by_cases
    (is_plain b)
    (λ e. let g : suc (plain_length bs) ≤ suc m = rw e at h in rw e (ap suc (plain_within m bs (omega arith))))
    (λ e. rw e refl)

blanks_within : (m : ℕ) (bs : List ℕ) → front_blanks bs ≤ m → front_blanks (take m bs) ≡ front_blanks bs
unfolding front_blanks provided◌then◌else◌
blanks_within zero [] h = refl
blanks_within (suc m) [] h = refl
blanks_within zero (b ∷ bs) h = omega arith
blanks_within (suc m) (b ∷ bs) h =
    by_cases
    (text.blank b)
    (λ e. let g : suc (front_blanks bs) ≤ suc m = rw e at h in rw e (ap suc (blanks_within m bs (omega arith))))
    (λ e. rw e refl)

module _ (s : List ℕ) (at stop to : ℕ) (h : to ≤ stop) where
  shorter : part at to s ≡ take (to - at) (part at stop s)
  shorter = sym (take-take (to - at) (stop - at) (drop at s) (omega arith))

  pub plain_sooner : (k : ℕ) → at + k ≤ to → k ≡ plain_length (part at stop s) → k ≡ plain_length (part at to s)
  plain_sooner k g e = rw shorter (e ∙ sym (plain_within (to - at) (part at stop s) (omega arith)))

  blanks_sooner : (f : ℕ) → at + f ≤ to → f ≡ front_blanks (part at stop s) → f ≡ front_blanks (part at to s)
  blanks_sooner f g e = rw shorter (e ∙ sym (blanks_within (to - at) (part at stop s) (omega arith)))

-- A text read behind its plain bytes.
lexed_run : (at : ℕ) (bs : List ℕ)
    → lexed (placed at bs) ≡ record { front = placed at (take (plain_length bs) bs); rest = tokens (placed (at + plain_length bs) (drop (plain_length bs) bs)) }
lexed_run at bs =
    let k = plain_length bs in
    lexed_behind (placed at (take k bs)) (placed (at + k) (drop k bs)) (placed at bs) _ (plains at bs) (stops (at + k) bs) (split at bs) refl

-- The first byte of a text, by what it is.
module _ (x : Byte) (bs : List Byte) where
  first_blank : class x ≡ blank → tokens (x ∷ bs) ≡ tokens bs
  unfolding tokens lexed lexed_by word
  first_blank e = rw e

  first_semi : class x ≡ semi → tokens (x ∷ bs) ≡ semicolon ∷ tokens bs
  unfolding tokens lexed lexed_by word
  first_semi e = rw e

  first_double : class x ≡ double → tokens (x ∷ bs) ≡ colon ∷ tokens bs
  unfolding tokens lexed lexed_by word
  first_double e = rw e

  first_bracket : class x ≡ bracket → tokens (x ∷ bs) ≡ opens ∷ tokens bs
  unfolding tokens lexed lexed_by word
  first_bracket e = rw e

module _ (x : Byte) (at : ℕ) (bs : List ℕ) where
  first_closing : class x ≡ closing
      → tokens (x ∷ placed at bs) ≡ closing_token (repeat_in (placed at (take (plain_length bs) bs)))
      ∷ tokens (placed (at + plain_length bs) (drop (plain_length bs) bs))
  unfolding tokens lexed lexed_by word
  first_closing e = rw (e, lexed_run at bs)

  lexed_first : class x ≡ plain
      → lexed (x ∷ placed at bs) ≡ record {
        front = x ∷ placed at (take (plain_length bs) bs);
        rest =
            tokens (placed (at + plain_length bs) (drop (plain_length bs) bs));
      }
  unfolding lexed lexed_by
  lexed_first e = rw (e, lexed_run at bs)

  first_plain : class x ≡ plain
      → tokens (x ∷ placed at bs) ≡ word_token (x ∷ placed at (take (plain_length bs) bs)) ∷ tokens (placed (at + plain_length bs) (drop (plain_length bs) bs))
  unfolding tokens word
  first_plain e = ap (λ l. word l.front l.rest) (lexed_first e)

class_blank : (at b : ℕ) → text.blank b ≡ true → class (record { place = at; value = b }) ≡ blank
unfolding class is_blank provided◌then◌else◌
class_blank at b e = rw e

-- Blanks in front are passed over.
tokens_blanks : (at : ℕ) (bs : List ℕ) → tokens (placed at bs) ≡ tokens (placed (at + front_blanks bs) (drop (front_blanks bs) bs))
unfolding placed front_blanks provided◌then◌else◌
tokens_blanks at [] = refl
tokens_blanks at (b ∷ bs) =
    by_cases
    (text.blank b)
    (λ e. rw (e, add-suc, ← suc-add) (first_blank (record { place = at; value = b }) (placed (suc at) bs) (class_blank at b e) ∙ tokens_blanks (suc at) bs))
    (λ e. rw (e, add-zero))

blanks_end : (bs : List ℕ) → front_blanks bs < length bs → text.blank (get_or bs (front_blanks bs) 0) ≡ false
unfolding front_blanks provided◌then◌else◌
blanks_end [] h = absurd (omega arith)
blanks_end (b ∷ bs) h = by_cases (text.blank b) (λ e. rw e (blanks_end bs (later e))) (λ e. rw e e)
  where
    later : text.blank b ≡ true → front_blanks bs < length bs
    later e = let g : suc (front_blanks bs) < length (b ∷ bs) = rw e at h in omega arith

module _ (s : List ℕ) (at stop f : ℕ) (e : f ≡ front_blanks (part at stop s)) where
  pub blanks_passed : (to : ℕ) → at + f ≤ to → to ≤ stop → tokens_from at to s ≡ tokens_from (at + f) to s
  blanks_passed to g h = tokens_blanks at (part at to s) ∙ rw (← (blanks_sooner s at stop to h f g e), part_drop s at to f)

  pub blanks_all : stop ≤ at + f → tokens_from at stop s ≡ []
  unfolding placed tokens lexed word
  blanks_all h = tokens_blanks at (part at stop s) ∙ rw (← e, part_drop s at stop f, part_none s (at + f) stop h)

  pub blanks_over : at + f < stop → stop ≤ length s → text.blank (get_or s (at + f) 0) ≡ false
  blanks_over h l =
      let n = part_length s at stop l in
      let g : get_or (part at stop s) f 0 ≡ get_or s (at + f) 0 = get_or-take (stop - at) (drop at s) f 0 (omega arith) ∙ get_or-drop at s f 0 in
      let b = blanks_end (part at stop s) (omega arith) in
      rw (← g, e) b

-- The token at a place, by the byte there.
module _ (s : List ℕ) (a stop : ℕ) where
  pub tokens_over : stop ≤ a → tokens_from a stop s ≡ []
  unfolding placed tokens lexed word
  tokens_over h = rw (part_none s a stop h)

  module _ (h : a < stop) (l : stop ≤ length s) where
    opened : (ts : List Token) → tokens (record { place = a; value = get_or s a 0 } ∷ placed (a + 1) (part (a + 1) stop s)) ≡ ts → tokens_from a stop s ≡ ts
    unfolding placed
    opened ts e = rw (part_cons s a stop h l, ← (add-one a)) e

    pub at_blank : text.blank (get_or s a 0) ≡ true → tokens_from a stop s ≡ tokens_from (a + 1) stop s
    at_blank e = opened _ (first_blank _ _ (class_blank a (get_or s a 0) e))

    pub at_semicolon : get_or s a 0 ≡ 59 → tokens_from a stop s ≡ semicolon ∷ tokens_from (a + 1) stop s
    unfolding class is_blank is_byte provided◌then◌else◌
    at_semicolon e = opened _ (first_semi _ _ (rw e))

    pub at_colon : get_or s a 0 ≡ 58 → tokens_from a stop s ≡ colon ∷ tokens_from (a + 1) stop s
    unfolding class is_blank is_byte provided◌then◌else◌
    at_colon e = opened _ (first_double _ _ (rw e))

    pub at_bracket : get_or s a 0 ≡ 91 → tokens_from a stop s ≡ opens ∷ tokens_from (a + 1) stop s
    unfolding class is_blank is_byte provided◌then◌else◌
    at_bracket e = opened _ (first_bracket _ _ (rw e))

    module _ (k : ℕ) (p : k ≡ plain_length (part (a + 1) stop s)) where
      run : take k (part (a + 1) stop s) ≡ part (a + 1) (a + 1 + k) s
      run =
          let z = plain_le (part (a + 1) stop s) in
          let n = part_length s (a + 1) stop l in
          let i : a + 1 + k - (a + 1) ≡ k = omega arith in
          take-take k (stop - (a + 1)) (drop (a + 1) s) (omega arith) ∙ rw i

      behind : tokens (placed (a + 1 + k) (drop k (part (a + 1) stop s))) ≡ tokens_from (a + 1 + k) stop s
      behind = rw (part_drop s (a + 1) stop k)

      pub at_closing : get_or s a 0 ≡ 93
          → tokens_from a stop s ≡ closing_token (repeat_in (placed 0 (part (a + 1) (a + 1 + k) s))) ∷ tokens_from (a + 1 + k) stop s
      unfolding class is_blank is_byte provided◌then◌else◌ repeat_in
      at_closing e =
          opened
          _
          (first_closing _ (a + 1) (part (a + 1) stop s) (rw e) ∙ rw (← p, run, behind, number_placed 2 9999 (a + 1) 0 (part (a + 1) (a + 1 + k) s)))

      pub at_word : is_plain (get_or s a 0) ≡ true → tokens_from a stop s ≡ word_token (placed a (part a (a + 1 + k) s)) ∷ tokens_from (a + 1 + k) stop s
      unfolding placed
      at_word e =
          let z = plain_le (part (a + 1) stop s) in
          let n = part_length s (a + 1) stop l in
          let w = part_cons s a (a + 1 + k) (omega arith) (omega arith) in
          opened
          _
          (first_plain _ (a + 1) (part (a + 1) stop s) (class_plain a (get_or s a 0) e) ∙ rw (← p, run, behind, w, ← (add-one a)))

-- A byte that is no blank and none of the four signs is plain.
pub plain_byte : (b : ℕ) → text.blank b ≡ false → (b ≡ 59 → ⊥) → (b ≡ 58 → ⊥) → (b ≡ 91 → ⊥) → (b ≡ 93 → ⊥) → is_plain b ≡ true
unfolding is_plain class is_byte provided◌then◌else◌ plain_class
plain_byte b e p q r t = rw (e, ne_eqb b 59 p, ne_eqb b 58 q, ne_eqb b 91 r, ne_eqb b 93 t)

pub letter_plain : (b : ℕ) → is_letter b ≡ true → is_plain b ≡ true
unfolding is_blank
letter_plain b l =
    let r = letter_range b l in
    plain_byte b (rw (ne_eqb b 32 (λ z. omega arith), ne_eqb b 9 (λ z. omega arith)))
    (λ z. omega arith) (λ z. omega arith) (λ z. omega arith) (λ z. omega arith)

pub blank_not_plain : (b : ℕ) → text.blank b ≡ true → is_plain b ≡ false
unfolding is_plain class provided◌then◌else◌ plain_class
blank_not_plain b e = rw e

pub sign_not_plain : (b sign : ℕ) → is_plain sign ≡ false → b ≡ sign → is_plain b ≡ false
sign_not_plain b sign p e = rw e p

pub colons_not_plain : (b : ℕ) → 58 ≤ b → b ≤ 59 → is_plain b ≡ false
unfolding is_plain
colons_not_plain b p q =
    by_cases
    (eqb b 58)
    (λ t. sign_not_plain b 58 refl (eqb-true b 58 t))
    (λ t. let n = eqb-false b 58 t in sign_not_plain b 59 refl (omega arith))

-- How many plain bytes stand in front, as the place of the first byte that is none.
abbrev pub is_ending : ℕ → Bool
is_ending b = not (is_plain b)

pub plain_found : (bs : List ℕ) {r : Option ℕ} → r ≡ position is_ending bs → unwrap_or r (length bs) ≡ plain_length bs
unfolding plain_length provided◌then◌else◌
plain_found bs = counted plain_length is_ending refl (λ b bs. by_cases (is_plain b) (λ e. rw e (omega arith)) (λ e. rw e)) bs
