-- Every token of a text of at most 65,536 bytes fits its word.
use Prim.Native.Nat.{ℕ, zero, suc, ◌+◌, ◌<◌, ◌≤◌}
use mathlib.Core.Path.{◌≡◌, refl}
use mathlib.Core.List.{List, [], ◌∷◌}
use mathlib.Core.Bool.{Bool, true, false}
use mathlib.Core.Option.{Option, none, some}
use native.Mathlib.Omega.{arith}
use borrow.Author.Tests.{leb-true}
use lib.Dec.{leb}
use lib.ListN.{length, drop}
use Rattle.songcode.specs.Lists.{provided◌then◌else◌, any}
use Rattle.songcode.specs.Bytes.{Byte, placed, values, is, is_byte}
use Rattle.songcode.specs.Answer.Numbers.{number_in, count_in, repeat_in}
use Rattle.songcode.specs.Answer.Chords.{bases, is_taken, longest_from, longest_base, Chord, chord_by, is_slip, without_slip, chord_in}
use Rattle.songcode.specs.Answer.Chords as songcode
use Rattle.songcode.specs.Song.{again, silence}
use Rattle.songcode.specs.Answer.Tables.{offset}
use Rattle.songcode.specs.Answer.Tokens.{Token, sound, remover, Class, blank, semi, double, bracket, closing, plain, class, chord_token, reference_token}
use Rattle.songcode.specs.Answer.Tokens.{closing_token, dollar_or, word_token, Lexed, word, lexed_by, lexed, tokens}
use Rattle.songcode.proofs.ListLaws.{by_cases}
use Rattle.tokens.specs.Fitting.{Fit, AllFit}
use Rattle.tokens.proofs.BaseLaws.{longest_fits}
use Rattle.tokens.proofs.WordLaws.{number_high}

-- Every byte stands before place 65,536.
unfoldable Below : List Byte → Type 0
Below [] = Unit {0}
Below (b ∷ bs) = (b.place < 65536) × Below bs

placed_below : (a : ℕ) (bs : List ℕ) → a + length bs ≤ 65536 → Below (placed a bs)
unfolding Below placed
placed_below a [] h = tt
placed_below a (b ∷ bs) h = (omega arith, placed_below (suc a) bs (omega arith))

drop_below : (k : ℕ) (bs : List Byte) → Below bs → Below (drop k bs)
unfolding Below
drop_below zero bs h = h
drop_below (suc k) [] h = tt
drop_below (suc k) (b ∷ bs) h = drop_below k bs h.1

offset_below : (bs : List Byte) → Below bs → offset bs < 65536
unfolding Below offset
offset_below [] h = omega arith
offset_below (b ∷ bs) h = h.0

chord_by_fit : (o : Option songcode.Base) (w : List Byte) → longest_from is_taken 0 bases (values w) none ≡ o → Below w → Fit (chord_token (chord_by o w))
unfolding chord_by chord_token Fit provided◌then◌else◌
chord_by_fit none w e h = tt
chord_by_fit (some b) w e h =
    by_cases
    (leb (length (drop b.length w)) 31)
    (λ t. rw t (
      (longest_fits (values w) b e).number,
      offset_below (drop b.length w) (drop_below b.length w h),
      leb-true (length (drop b.length w)) 31 t,
    ))
    (λ t. rw t tt)

slip_fit : (o : Option Chord) → Fit (chord_token o) → Fit (chord_token (without_slip o))
unfolding without_slip chord_token Fit provided◌then◌else◌
slip_fit none h = tt
slip_fit (some c) h = by_cases (any is_slip c.extension) (λ t. rw t tt) (λ t. rw t h)

chord_fit : (w : List Byte) → Below w → Fit (chord_token (chord_in w))
unfolding chord_in longest_base
chord_fit w h =
    slip_fit (chord_by (longest_from is_taken 0 bases (values w) none) w) (chord_by_fit (longest_from is_taken 0 bases (values w) none) w refl h)

reference_fit : (bs : List Byte) → Fit (reference_token (count_in bs))
unfolding reference_token count_in Fit
reference_fit bs = go (number_in 1 9999 bs) refl
  where
    go : (o : Option ℕ) → number_in 1 9999 bs ≡ o → Fit (reference_token o)
    go none e = tt
    go (some n) e = number_high 1 9999 bs n e

closing_fit : (bs : List Byte) → Fit (closing_token (repeat_in bs))
unfolding closing_token repeat_in Fit
closing_fit bs = go (number_in 2 9999 bs) refl
  where
    go : (o : Option ℕ) → number_in 2 9999 bs ≡ o → Fit (closing_token o)
    go none e = tt
    go (some n) e = number_high 2 9999 bs n e

if_fit : (t : Bool) (x y : Token) → Fit x → Fit y → Fit (provided t then x else y)
unfolding provided◌then◌else◌
if_fit true x y f g = f
if_fit false x y f g = g

dollar_fit : (w : List Byte) → Below w → Fit (dollar_or w)
unfolding dollar_or Fit
dollar_fit [] h = tt
dollar_fit (b ∷ bs) h =
    if_fit (is_byte 36 b) (reference_token (count_in bs)) (chord_token (chord_in (b ∷ bs))) (reference_fit bs) (chord_fit (b ∷ bs) h)

word_fit : (w : List Byte) → Below w → Fit (word_token w)
unfolding word_token Fit
word_fit w h =
    if_fit (is "%" w) (sound again) _ tt (if_fit (is "_" w) (sound silence) _ tt (if_fit (is "=" w) remover (dollar_or w) tt (dollar_fit w h)))

word_all : (w : List Byte) (ts : List Token) → Below w → AllFit ts → AllFit (word w ts)
unfolding word AllFit
word_all [] ts h f = f
word_all (b ∷ w) ts h f = (word_fit (b ∷ w) h, f)

lexed_by_fit : (k : Class) (b : Byte) (l : Lexed) → b.place < 65536 → Below l.front → AllFit l.rest
    → Below (lexed_by k b l).front × AllFit (lexed_by k b l).rest
unfolding lexed_by Below AllFit Fit
lexed_by_fit blank b l p h f = (tt, word_all l.front l.rest h f)
lexed_by_fit semi b l p h f = (tt, (tt, word_all l.front l.rest h f))
lexed_by_fit double b l p h f = (tt, (tt, word_all l.front l.rest h f))
lexed_by_fit bracket b l p h f = (tt, (tt, word_all l.front l.rest h f))
lexed_by_fit closing b l p h f = (tt, (closing_fit l.front, f))
lexed_by_fit plain b l p h f = ((p, h), f)

lexed_fit : (bs : List Byte) → Below bs → Below (lexed bs).front × AllFit (lexed bs).rest
unfolding lexed Below AllFit
lexed_fit [] h = (tt, tt)
lexed_fit (b ∷ bs) h = let g = lexed_fit bs h.1 in lexed_by_fit (class b) b (lexed bs) h.0 g.0 g.1

pub tokens_fit : (a : ℕ) (bs : List ℕ) → a + length bs ≤ 65536 → AllFit (tokens (placed a bs))
unfolding tokens
tokens_fit a bs h = let g = lexed_fit (placed a bs) (placed_below a bs h) in word_all _ _ g.0 g.1
