-- Lyric lines summed up: how many they are, their counts, and the first line without one.
use Rattle.std.specs.Prelude.{ℕ, ◌+◌, ◌≤◌, ◌≡◌, Bool, true, false, not, ◌||◌, ◌&&◌, List, [], ◌∷◌, eqb, ltb, length, take, drop, Option, Some, None}
use Rattle.songcode.specs.Lists.{provided◌then◌else◌, any}
use Rattle.songcode.specs.Song.{LyricLine}
use Rattle.songcode.specs.Answer.Lyrics.{is_counted, counted}
use Rattle.refusals.specs.declared.Refusal.{Refusal}
use Rattle.refusals.specs.declared.names.Why.TheVariants.{CountMissing}
use Rattle.score.specs.declared.stretches.Stretch.{Stretch}
use Rattle.score.specs.LyricLines.{lyric_in}
use Rattle.judging.specs.declared.lyrics.Tally.{Tally}
use Rattle.judging.specs.declared.lyrics.Taken.{Taken}

-- The least of two line numbers, where 0 is none.
unfoldable pub first_line : ℕ → ℕ → ℕ
unfolding provided◌then◌else◌
first_line a b = provided eqb a 0 then b else (provided eqb b 0 then a else (provided ltb b a then b else a))

unfoldable pub with_line : Tally → ℕ → ℕ → Tally
unfolding provided◌then◌else◌ first_line
with_line t number count =
    provided eqb count 0 then record { lines = t.lines + 1; sum = t.sum; counted = t.counted; bare = first_line t.bare number }
    else record { lines = t.lines + 1; sum = t.sum + count; counted = true; bare = t.bare }

abbrev pub no_lines : Tally
no_lines = record { lines = 0; sum = 0; counted = false; bare = 0 }

-- With the lines whose words in the row these are, two words a line.
unfoldable pub tally_words : Tally → List ℕ → Tally
unfolding with_line
tally_words t [] = t
tally_words t (a ∷ []) = t
tally_words t (a ∷ b ∷ ws) = tally_words (with_line t (lyric_in a b).number (lyric_in a b).count) ws

unfoldable pub tally_in : List ℕ → Stretch → Tally
unfolding tally_words
tally_in ws t = tally_words no_lines (drop t.from (take t.to ws))

-- The stretch lies in the row.
pub record Inside (ws : List ℕ) (t : Stretch) : Type 0 where
  pub low : t.to ≤ 1000000
  pub size : t.to ≡ t.from + length (drop t.from (take t.to ws))

-- The least number of a line without a count; 0 if all have one.
unfoldable pub bare_line : List LyricLine → ℕ
unfolding provided◌then◌else◌ first_line is_counted
bare_line [] = 0
bare_line (l ∷ ls) = provided is_counted l then bare_line ls else first_line l.number (bare_line ls)

unfoldable pub tallied : List LyricLine → Tally
unfolding any is_counted counted bare_line
tallied ls = record { lines = length ls; sum = counted ls; counted = any is_counted ls; bare = bare_line ls }

-- With the lyric lines of one more section, which are taken where its pattern is not empty.
unfoldable pub taken_with : Bool → Taken → Tally → Taken
unfolding provided◌then◌else◌ first_line
taken_with empty y t = provided empty then y else record { counted = y.counted || t.counted; bare = first_line y.bare t.bare }

-- What stage 6 refuses of the lines taken.
unfoldable pub count_fault : Taken → Option Refusal
unfolding provided◌then◌else◌
count_fault y = provided y.counted && not (eqb y.bare 0) then Some (record { why = CountMissing; line = y.bare }) else None
