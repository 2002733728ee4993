-- A token's word tells its kind and its numbers.
use Prim.Native.Nat.{ℕ, ◌+◌, ◌*◌, ◌/◌, ◌%◌, ◌^◌, ◌<◌, ◌≤◌}
use mathlib.Core.Path.{◌≡◌, refl}
use native.Mathlib.Omega.{arith}
use Rattle.songcode.specs.Song.{chord, again, silence}
use Rattle.songcode.specs.Answer.Tokens.{Token, sound, remover, reference, semicolon, colon, line_end, opens, closes, wrong}
use Rattle.tokens.specs.TokenWords.{chord_word, token_word}
use Rattle.tokens.specs.Signs.{kind_of}
use Rattle.tokens.specs.Fitting.{Fit, kind, amount}

word_is : (t : Token) → token_word t ≡ kind t * 2 ^ 26 + amount t
unfolding token_word chord_word kind amount
word_is (sound (chord c)) = omega arith
word_is (sound silence) = refl
word_is (sound again) = refl
word_is remover = refl
word_is semicolon = refl
word_is colon = refl
word_is line_end = refl
word_is opens = refl
word_is (closes n) = refl
word_is (reference n) = refl
word_is wrong = refl

parts_fit : (t : Token) → Fit t → (kind t ≤ 63) × (amount t < 2 ^ 26)
unfolding Fit kind amount
parts_fit (sound (chord c)) f = (omega arith, omega arith)
parts_fit (sound silence) f = (omega arith, omega arith)
parts_fit (sound again) f = (omega arith, omega arith)
parts_fit remover f = (omega arith, omega arith)
parts_fit semicolon f = (omega arith, omega arith)
parts_fit colon f = (omega arith, omega arith)
parts_fit line_end f = (omega arith, omega arith)
parts_fit opens f = (omega arith, omega arith)
parts_fit (closes n) f = (omega arith, omega arith)
parts_fit (reference n) f = (omega arith, omega arith)
parts_fit wrong f = (omega arith, omega arith)

module _ (t : Token) (f : Fit t) where
  pub word_kind_lem : token_word t / 2 ^ 26 ≡ kind t
  word_kind_lem =
      let h = parts_fit t f in
      let e = word_is t in
      omega arith

  pub word_amount : token_word t % 2 ^ 26 ≡ amount t
  word_amount =
      let h = parts_fit t f in
      let e = word_is t in
      omega arith

-- The word of a chord that fits is of a kind below 34.
pub chord_kind : (w : ℕ) → w < 2281701376 → kind_of w < 34
chord_kind w h = omega arith
