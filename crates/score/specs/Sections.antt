-- A section in the row: four words about it, its cuts, the words of its lead-in, pattern and tail, and two words for each lyric line.
-- Fields stand from the top bit down, as in the tables.
use Rattle.std.specs.Prelude.{ℕ, ◌+◌, ◌-◌, ◌*◌, ◌^◌, Bool, true, false, ◌||◌, length}
use mathlib.Core.List.{List, [], ◌∷◌, ◌++◌, flat_map}
use Rattle.std.proofs.Math.Option.{Option, none, some, get_or}
use Rattle.songcode.specs.Lists.{is_some}
use Rattle.songcode.specs.Song.{Items, Cut, Side, Modifiers, Pattern, items, named, LyricLine, Section, Song}
use Rattle.songcode.specs.Answer.Tokens.{reference}
use Rattle.songcode.specs.Answer.Playing.{time_of, bpm_of, repeats}
use Rattle.songcode.specs.Answer.Lyrics.{Styled, words_of, styled, count_of}
use Rattle.songcode.specs.Answer.Tables.{offset}
use Rattle.songcode.specs.Description.WrittenPattern.{items_tokens}
use Rattle.tokens.specs.TokenWords.{token_words}
use Rattle.score.specs.Even.{even_pattern}

-- The words of items as they are written.
unfoldable pub items_row : Items → List ℕ
unfolding token_words items_tokens
items_row r = token_words (items_tokens r)

-- A lead-in or tail; a pattern, of which a name is one word.
unfoldable pub side_row : Option Side → List ℕ
unfolding items_row
side_row none = []
side_row (some x) = items_row x.items

unfoldable pub pattern_row : Pattern → List ℕ
unfolding items_row token_words
pattern_row (items r) = items_row r
pattern_row (named n) = token_words (reference n ∷ [])

-- A cut: measures 14, beats 14. Both cuts stand there if one does; a word of 0 is no cut.
unfoldable pub cut_word : Option Cut → ℕ
cut_word none = 0
cut_word (some c) = c.whole.measures * 2 ^ 18 + c.further.beats * 2 ^ 4

unfoldable pub is_cut : Modifiers → Bool
unfolding is_some
is_cut m = is_some m.cut_start || is_some m.cut_end

unfoldable pub cuts_by : Bool → ℕ → ℕ → List ℕ
cuts_by true front back = front ∷ back ∷ []
cuts_by false front back = []

unfoldable pub cuts_row : Modifiers → List ℕ
unfolding cuts_by is_cut cut_word
cuts_row m = cuts_by (is_cut m) (cut_word m.cut_start) (cut_word m.cut_end)

-- A lyric line: its text's offset 16, length 16; its line less 1: 16, count 14 (0 where it has none), style 2.
unfoldable pub lyric_by : ℕ → ℕ → Styled → List ℕ
unfolding offset
lyric_by number count w = (offset w.text * 2 ^ 16 + length w.text) ∷ ((number - 1) * 2 ^ 16 + count * 2 ^ 2 + w.style) ∷ []

unfoldable pub lyric_row : LyricLine → List ℕ
unfolding lyric_by styled words_of count_of
lyric_row l = lyric_by l.number (get_or (count_of l) 0) (styled (words_of l.text).text)

-- What stands behind a section's four words.
unfoldable pub parts_row : Section → List ℕ
unfolding cuts_row side_row pattern_row flat_map lyric_row
parts_row x =
    cuts_row x.modifiers
    ++ (side_row x.modifiers.before ++ (pattern_row x.pattern ++ (side_row x.modifiers.after ++ flat_map lyric_row x.lyrics)))

unfoldable pub bit : Bool → ℕ
bit true = 1
bit false = 0

-- How many words they are 17, N 6, bpm 9; header's line less 1: 16, repeat 14, whether it is cut 1; the words of the lead-in 16, of the tail 16;
-- lyric lines 16, the pattern's measures 16 if each has N beats.
unfoldable pub section_row : Song → Section → List ℕ
unfolding parts_row time_of bpm_of repeats bit is_cut side_row even_pattern
section_row s x =
    ((4 + length (parts_row x)) * 2 ^ 15 + time_of s x * 2 ^ 9 + bpm_of s x)
    ∷ ((x.header - 1) * 2 ^ 16 + repeats x.modifiers * 2 ^ 2 + bit (is_cut x.modifiers) * 2)
    ∷ (length (side_row x.modifiers.before) * 2 ^ 16 + length (side_row x.modifiers.after))
    ∷ (length x.lyrics * 2 ^ 16 + even_pattern s x)
    ∷ parts_row x

-- The sections one behind the other.
unfoldable pub sections_row : Song → List Section → List ℕ
unfolding flat_map section_row
sections_row s xs = flat_map (section_row s) xs
