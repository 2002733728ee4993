-- A text has no more tokens than bytes, and each token has one word.
use Prim.Native.Nat.{ℕ, suc, ◌+◌, ◌-◌, ◌≤◌}
use mathlib.Core.Path.{◌≡◌, refl, ap}
use mathlib.Core.List.{List, [], ◌∷◌}
use native.Mathlib.Omega.{arith}
use lib.ListN.{length}
use Rattle.songcode.specs.Bytes.{Byte, placed}
use Rattle.songcode.specs.Answer.Tokens.{Token, Class, blank, semi, double, bracket, closing, plain, class, Lexed, word, lexed_by, lexed, tokens}
use Rattle.songcode.proofs.ByteLaws.{length_placed}
use Rattle.text.specs.Spans.{part}
use Rattle.text.proofs.WalkLaws.{part_length}
use Rattle.tokens.specs.TokenWords.{token_words}
use Rattle.tokens.specs.Lexing.{tokens_from}

-- Each token has a byte of its own.
word_few : (w : List Byte) (ts : List Token) → length (word w ts) ≤ length w + length ts
unfolding word
word_few [] ts = omega arith
word_few (b ∷ w) ts = omega arith

lexed_by_few : (k : Class) (b : Byte) (l : Lexed) → length (lexed_by k b l).front + length (lexed_by k b l).rest ≤ suc (length l.front + length l.rest)
unfolding lexed_by
lexed_by_few blank b l = let h = word_few l.front l.rest in omega arith
lexed_by_few semi b l = let h = word_few l.front l.rest in omega arith
lexed_by_few double b l = let h = word_few l.front l.rest in omega arith
lexed_by_few bracket b l = let h = word_few l.front l.rest in omega arith
lexed_by_few closing b l = omega arith
lexed_by_few plain b l = omega arith

lexed_few : (bs : List Byte) → length (lexed bs).front + length (lexed bs).rest ≤ length bs
unfolding lexed
lexed_few [] = omega arith
lexed_few (b ∷ bs) =
    let h = lexed_few bs in
    let k = lexed_by_few (class b) b (lexed bs) in
    omega arith

pub tokens_few : (bs : List Byte) → length (tokens bs) ≤ length bs
unfolding tokens
tokens_few bs =
    let h = lexed_few bs in
    let k = word_few (lexed bs).front (lexed bs).rest in
    omega arith

pub words_length : (ts : List Token) → length (token_words ts) ≡ length ts
unfolding token_words
words_length [] = refl
words_length (t ∷ ts) = ap suc (words_length ts)

-- The words of a part of a text.
pub part_words_few : (s : List ℕ) (a e : ℕ) → e ≤ length s → length (token_words (tokens_from a e s)) ≤ e - a
part_words_few s a e h =
    let w = words_length (tokens_from a e s) in
    let k = tokens_few (placed a (part a e s)) in
    let l = length_placed a (part a e s) in
    let m = part_length s a e h in
    omega arith
