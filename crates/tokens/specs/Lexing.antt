-- What the code finds of a line's tokens: plain bytes, and the token at a place.
use Rattle.std.specs.Prelude.{ℕ, suc, ◌<◌, ◌≤◌, ◌≡◌, List, [], ◌∷◌, Bool, true, false}
use Rattle.songcode.specs.Lists.{provided◌then◌else◌}
use Rattle.songcode.specs.Bytes.{placed}
use Rattle.songcode.specs.Answer.Chords.{is_slip}
use Rattle.songcode.specs.Answer.Tokens.{Class, blank, semi, double, bracket, closing, plain, class, tokens}
use Rattle.songcode.specs.Answer.Tokens as songcode
use Rattle.text.specs.Spans.{part}
use Rattle.tokens.specs.declared.lexing.Lexed.{Lexed}
use Rattle.std.specs.Prelude as std
use Rattle.std.specs.Prelude.{Some, None}
use Rattle.tokens.specs.TokenWords.{token_word}

unfoldable pub plain_class : Class → Bool
plain_class blank = false
plain_class semi = false
plain_class double = false
plain_class bracket = false
plain_class closing = false
plain_class plain = true

-- A byte, wherever it stands, is plain.
unfoldable pub is_plain : ℕ → Bool
unfolding plain_class class
is_plain b = plain_class (class (record { place = 0; value = b }))

-- A byte, wherever it stands, is one that no extension holds.
unfoldable pub is_slip_byte : ℕ → Bool
unfolding is_slip
is_slip_byte b = is_slip (record { place = 0; value = b })

-- How many plain bytes stand in front.
unfoldable pub plain_length : List ℕ → ℕ
unfolding provided◌then◌else◌ is_plain
plain_length [] = 0
plain_length (b ∷ bs) = provided is_plain b then suc (plain_length bs) else 0

-- The tokens of the part of a text from one place up to another.
abbrev pub tokens_from : ℕ → ℕ → List ℕ → List songcode.Token
tokens_from at stop s = tokens (placed at (part at stop s))

-- What the code finds at a place: the word of the first token and where the next may begin, or that no token is left. Wherever the part ends, from
-- there on, the token is the same.
unfoldable pub Reads : List ℕ → ℕ → ℕ → std.Option Lexed → Type 0
Reads s at stop (Some l) =
    (t : songcode.Token) × (at < l.next) × (l.next ≤ stop) × (l.word ≡ token_word t)
    × ((to : ℕ) → l.next ≤ to → to ≤ stop → tokens_from at to s ≡ t ∷ tokens_from l.next to s)
Reads s at stop None = tokens_from at stop s ≡ []
