-- The words and signs of a pattern text.
use Rattle.std.specs.Prelude.{ℕ, List, [], ◌∷◌, ◌++◌}
use Prim.Native.Char.{code}
use Rattle.std.proofs.Math.Option.{Option, none, some}
use Rattle.songcode.specs.Lists.{provided◌then◌else◌}
use Rattle.songcode.specs.Bytes.{Byte, is, is_blank, is_byte}
use Rattle.songcode.specs.Answer.Numbers.{count_in, repeat_in}
use Rattle.songcode.specs.Answer.Chords.{Chord, Reading, chord_in}
use Rattle.songcode.specs.Answer.Lines.{Line}
use Rattle.songcode.specs.Song.{Sound, chord, again, silence}

-- A token: a position that sounds, the remover, `$n`, the separators' signs and line ends, the brackets, the second with its count.
-- `wrong` is a word that is none of these, or a bracket without a count.
pub data Token : Type 0 where
  sound : Sound → Token
  remover : Token
  reference : ℕ → Token
  semicolon colon line_end opens : Token
  closes : ℕ → Token
  wrong : Token

-- "without space, tab, `;`, `:`, `[` or `]`": what a byte is to a pattern text.
pub data Class : Type 0 where
  blank semi double bracket closing plain : Class

unfoldable pub class : Byte → Class
unfolding provided◌then◌else◌ is_blank is_byte
class b =
    provided is_blank b then blank
    else provided is_byte (code ";") b then semi
    else provided is_byte (code ":") b then double
    else provided is_byte (code "[") b then bracket
    else provided is_byte (code "]") b then closing
    else plain

unfoldable pub chord_token : Option Chord → Token
chord_token none = wrong
chord_token (some c) = sound (chord c)

unfoldable pub reference_token : Option ℕ → Token
reference_token none = wrong
reference_token (some n) = reference n

-- "not between `]` and its count"
unfoldable pub closing_token : Option ℕ → Token
closing_token none = wrong
closing_token (some n) = closes n

-- A word behind `$` is a count; any other but the three signs is a chord, by any way to read one.
unfoldable pub dollar_as : Reading → List Byte → Token
unfolding provided◌then◌else◌ is_byte reference_token count_in chord_token
dollar_as read [] = wrong
dollar_as read (b ∷ bs) = provided is_byte (code "$") b then reference_token (count_in bs) else chord_token (read (b ∷ bs))

unfoldable pub word_token_as : Reading → List Byte → Token
unfolding provided◌then◌else◌ is dollar_as
word_token_as read w =
    provided is "%" w then sound again
    else provided is "_" w then sound silence
    else provided is "=" w then remover
    else dollar_as read w

-- A text read from its end: the plain bytes in front, and the tokens behind them.
pub record Lexed : Type 0 where
  pub front : List Byte
  pub rest : List Token

unfoldable pub word_as : Reading → List Byte → List Token → List Token
unfolding word_token_as
word_as read [] ts = ts
word_as read (b ∷ w) ts = word_token_as read (b ∷ w) ∷ ts

unfoldable pub lexed_by_as : Reading → Class → Byte → Lexed → Lexed
unfolding word_as closing_token repeat_in
lexed_by_as read blank b l = record { front = []; rest = word_as read l.front l.rest }
lexed_by_as read semi b l = record { front = []; rest = semicolon ∷ word_as read l.front l.rest }
lexed_by_as read double b l = record { front = []; rest = colon ∷ word_as read l.front l.rest }
lexed_by_as read bracket b l = record { front = []; rest = opens ∷ word_as read l.front l.rest }
lexed_by_as read closing b l = record { front = []; rest = closing_token (repeat_in l.front) ∷ l.rest }
lexed_by_as read plain b l = record { front = b ∷ l.front; rest = l.rest }

unfoldable pub lexed_as : Reading → List Byte → Lexed
unfolding lexed_by_as class
lexed_as read [] = record { front = []; rest = [] }
lexed_as read (b ∷ bs) = lexed_by_as read (class b) b (lexed_as read bs)

-- The tokens of a line, and of the lines of a text with a line end between neighbours.
unfoldable pub tokens_as : Reading → List Byte → List Token
unfolding lexed_as word_as
tokens_as read bs = word_as read (lexed_as read bs).front (lexed_as read bs).rest

unfoldable pub tokens_of_as : Reading → Line → List Line → List Token
unfolding tokens_as
tokens_of_as read l [] = tokens_as read l.text
tokens_of_as read l (m ∷ ms) = tokens_as read l.text ++ (line_end ∷ tokens_of_as read m ms)

-- The same with chords as they are read today.
unfoldable abbrev pub dollar_or : List Byte → Token
unfolding dollar_as chord_in
dollar_or = dollar_as chord_in

unfoldable abbrev pub word_token : List Byte → Token
unfolding word_token_as chord_in
word_token = word_token_as chord_in

unfoldable abbrev pub word : List Byte → List Token → List Token
unfolding word_as chord_in
word = word_as chord_in

unfoldable abbrev pub lexed_by : Class → Byte → Lexed → Lexed
unfolding lexed_by_as chord_in
lexed_by = lexed_by_as chord_in

unfoldable abbrev pub lexed : List Byte → Lexed
unfolding lexed_as chord_in
lexed = lexed_as chord_in

unfoldable abbrev pub tokens : List Byte → List Token
unfolding tokens_as chord_in
tokens = tokens_as chord_in

unfoldable abbrev pub tokens_of : Line → List Line → List Token
unfolding tokens_of_as chord_in
tokens_of = tokens_of_as chord_in
