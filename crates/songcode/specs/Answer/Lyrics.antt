-- Lyric lines: their counts and styles; stages 6 and 7; the prompter items.
use Rattle.std.specs.Prelude.{ℕ, ◌+◌, ◌-◌, Bool, ◌&&◌, not, eqb, leb, length, take, drop}
use Prim.Native.Char.{code}
use mathlib.Core.List.{List, [], ◌∷◌, reverse, flat_map}
use Rattle.std.proofs.Math.Option.{Option, none, some, get_or}
use Rattle.songcode.specs.Lists.{provided◌then◌else◌, taken, left, is_empty, any, every, is_some}
use Rattle.songcode.specs.Bytes.{Byte, values, ascii, begins, is_byte, is_blank, not_blank}
use Rattle.songcode.specs.Answer.Numbers.{count_in}
use Rattle.songcode.specs.Complaints.{Complaint, complain_if}
use Rattle.songcode.specs.Song.{Section, Song, LyricLine}
use Rattle.songcode.specs.Answer.References.{pattern_items}
use Rattle.songcode.specs.Answer.Playing.{played}

-- A lyric line's text without its count, and the count if it has one.
pub record Words : Type 0 where
  pub text : List Byte
  pub count : Option ℕ

-- The count behind `_`, in the line's last word.
unfoldable pub count_behind : List Byte → Option ℕ
unfolding provided◌then◌else◌ is_byte count_in
count_behind [] = none
count_behind (b ∷ bs) = provided is_byte (code "_") b then count_in bs else none

-- What stands before the last word, from its end, and the last word: a count needs a blank before it.
unfoldable pub words_by : List Byte → List Byte → Option ℕ → Words
unfolding left is_blank
words_by whole [] n = record { text = whole; count = none }
words_by whole (b ∷ bs) none = record { text = whole; count = none }
words_by whole (b ∷ bs) (some n) = record { text = reverse (left is_blank (b ∷ bs)); count = some n }

-- "A lyric line has a count if it ends in a space or tab, `_` and a count, with something before."
unfoldable pub words_of : List Byte → Words
unfolding words_by count_behind taken left not_blank
words_of bs = words_by bs (left not_blank (reverse bs)) (count_behind (reverse (taken not_blank (reverse bs))))

-- "Text ... that begins and ends with `***`, or with `:::`, and is at least 7 bytes, has style 1, or 2, and its text is what lies between; else style 0."
unfoldable pub bracketed : List ℕ → List Byte → Bool
unfolding begins values
bracketed mark bs = begins mark (values bs) && begins mark (values (reverse bs)) && leb 7 (length bs)

pub record Styled : Type 0 where
  pub style : ℕ
  pub text : List Byte

unfoldable pub between : List Byte → List Byte
between bs = take (length bs - 6) (drop 3 bs)

unfoldable pub styled : List Byte → Styled
unfolding provided◌then◌else◌ bracketed ascii between
styled bs =
    provided bracketed (ascii "***") bs then record { style = 1; text = between bs }
    else provided bracketed (ascii ":::") bs then record { style = 2; text = between bs }
    else record { style = 0; text = bs }

unfoldable pub count_of : LyricLine → Option ℕ
unfolding words_of
count_of l = (words_of l.text).count

unfoldable pub is_counted : LyricLine → Bool
unfolding is_some count_of
is_counted l = is_some (count_of l)

-- "Take the lyric lines of all sections whose pattern isn't empty".
unfoldable pub is_played : Song → Section → Bool
unfolding is_some pattern_items
is_played s x = is_some (pattern_items s.definitions x.pattern)

unfoldable pub lines_taken : Song → List LyricLine
unfolding provided◌then◌else◌ flat_map is_played
lines_taken s = flat_map (λ x. provided is_played s x then x.lyrics else []) s.sections

-- "if one has a count, all have": 16 on each that has none.
unfoldable pub has_counts : Song → Bool
unfolding any is_counted lines_taken
has_counts s = any is_counted (lines_taken s)

unfoldable pub count_faults : Song → List Complaint
unfolding provided◌then◌else◌ flat_map complain_if is_counted lines_taken has_counts
count_faults s = provided has_counts s then flat_map (λ l. complain_if (not (is_counted l)) 16 l.number) (lines_taken s) else []

-- "and each such section with lyrics sums to its measures": 17 on the header.
unfoldable pub counted : List LyricLine → ℕ
unfolding count_of
counted [] = 0
counted (l ∷ ls) = get_or (count_of l) 0 + counted ls

unfoldable pub sum_fault : Song → Section → List Complaint
unfolding complain_if is_played is_empty counted played
sum_fault s x =
    complain_if (is_played s x && not (is_empty x.lyrics) && not (eqb (counted x.lyrics) (length (played s x)))) 17 x.header

unfoldable pub sum_faults : Song → List Complaint
unfolding provided◌then◌else◌ flat_map sum_fault has_counts
sum_faults s = provided has_counts s then flat_map (sum_fault s) s.sections else []

-- "Items are written only if every section has lyrics and a pattern that isn't empty, and all have counts".
unfoldable pub has_items : Song → Bool
unfolding every is_played is_empty is_counted
has_items s = every (λ x. is_played s x && not (is_empty x.lyrics) && every is_counted x.lyrics) s.sections

-- A prompter item: its words, first measure and measures.
pub record Prompt : Type 0 where
  pub words : Styled
  pub first : ℕ
  pub measures : ℕ

unfoldable pub prompts_from : ℕ → List LyricLine → List Prompt
unfolding styled words_of count_of
prompts_from first [] = []
prompts_from first (l ∷ ls) =
    record { words = styled (words_of l.text).text; first = first; measures = get_or (count_of l) 0 }
    ∷ prompts_from (first + get_or (count_of l) 0) ls

unfoldable pub prompts : Song → List Prompt
unfolding provided◌then◌else◌ has_items prompts_from lines_taken
prompts s = provided has_items s then prompts_from 0 (lines_taken s) else []
