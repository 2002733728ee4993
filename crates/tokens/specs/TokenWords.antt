-- The words by which the code keeps a pattern's tokens. The word of a chord is that of a beat without its head.
use Rattle.std.specs.Prelude.{ℕ, ◌+◌, ◌*◌, ◌^◌, List, [], ◌∷◌, length}
use Rattle.songcode.specs.Answer.Chords.{Chord}
use Rattle.songcode.specs.Song.{chord, again, silence}
use Rattle.songcode.specs.Answer.Tokens.{Token, sound, remover, reference, semicolon, colon, line_end, opens, closes, wrong}
use Rattle.songcode.specs.Answer.Tables.{offset}

unfoldable pub chord_word : Chord → ℕ
unfolding offset
chord_word c = c.base * 2 ^ 26 + offset c.extension * 2 ^ 10 + length c.extension * 2 ^ 5

unfoldable pub token_word : Token → ℕ
unfolding chord_word
token_word (sound (chord c)) = chord_word c
token_word (sound silence) = 63 * 2 ^ 26
token_word (sound again) = 62 * 2 ^ 26
token_word remover = 61 * 2 ^ 26
token_word semicolon = 60 * 2 ^ 26
token_word colon = 59 * 2 ^ 26
token_word line_end = 58 * 2 ^ 26
token_word opens = 57 * 2 ^ 26
token_word (closes n) = 56 * 2 ^ 26 + n
token_word (reference n) = 55 * 2 ^ 26 + n
token_word wrong = 54 * 2 ^ 26

unfoldable pub token_words : List Token → List ℕ
unfolding token_word
token_words [] = []
token_words (t ∷ ts) = token_word t ∷ token_words ts
