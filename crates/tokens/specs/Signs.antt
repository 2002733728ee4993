-- What a token word tells: its kind, its number, and whether it is a position of a measure, a separator, or the end of a row.
use Rattle.std.specs.Prelude.{ℕ, ◌/◌, ◌%◌, Bool, ◌||◌, ◌&&◌, eqb, leb, ltb}

-- The number above the 26 low bits, and the number in them.
abbrev pub kind_of : ℕ → ℕ
kind_of w = w / 67108864

abbrev pub number_of : ℕ → ℕ
number_of w = w % 67108864

-- The kinds of chords are the numbers of their bases; each sign has one of its own, from the last number down.
abbrev pub is_chord : ℕ → Bool
is_chord k = ltb k 34

abbrev pub is_again : ℕ → Bool
is_again k = eqb k 62

abbrev pub is_remover : ℕ → Bool
is_remover k = eqb k 61

abbrev pub is_opening : ℕ → Bool
is_opening k = eqb k 57

abbrev pub is_closing : ℕ → Bool
is_closing k = eqb k 56

abbrev pub is_reference : ℕ → Bool
is_reference k = eqb k 55

-- The word of `_`, and one of no token of a pattern.
abbrev pub silence_word : ℕ
silence_word = 4227858432

abbrev pub wrong_word : ℕ
wrong_word = 3623878656

-- Chords have kinds below 34, `=` 61, `%` 62, `_` 63.
unfoldable pub is_position : ℕ → Bool
is_position k = is_chord k || leb 61 k

-- A line end 58, `:` 59, `;` 60.
unfoldable pub is_separator : ℕ → Bool
is_separator k = leb 58 k && leb k 60

-- What ends a row: a closing bracket, 56, or a word that is none of a pattern's.
unfoldable pub is_stop : ℕ → Bool
is_stop k = is_closing k || (leb 34 k && leb k 54)
