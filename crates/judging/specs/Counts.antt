-- A section's counts: what they sum to, how many measures the section plays, and the line, place and digits of its last count.
use Rattle.std.specs.Prelude.{ℕ, zero, suc, ◌-◌, ◌≤◌, ◌≡◌, eqb, length, take, drop}
use mathlib.Core.List.{List, [], ◌∷◌, map, flat_map}
use Rattle.std.proofs.Math.Option.{Option, none, some}
use Rattle.songcode.specs.Lists.{provided◌then◌else◌}
use Rattle.songcode.specs.Song.{LyricLine, Section, Song}
use Rattle.songcode.specs.Seams.{number_written}
use Rattle.songcode.specs.Answer.Sections.{lyric_line}
use Rattle.songcode.specs.Answer.Playing.{played}
use Rattle.songcode.specs.Answer.Lyrics.{count_of, counted}
use Rattle.songcode.specs.Answer.Tables.{offset}
use Rattle.songcode.specs.Answer.Answer.{song_of}
use Rattle.text.specs.Spans.{line_at}
use Rattle.score.specs.declared.lyrics.Lyric.{Lyric}
use Rattle.score.specs.declared.stretches.Stretch.{Stretch}
use Rattle.score.specs.Sections.{lyric_row}
use Rattle.score.specs.Fitting.{LyricsFit}
use Rattle.score.specs.LyricLines.{lyric_in}
use Rattle.score.specs.Seen.{Holds}
use Rattle.score.specs.Views.{view_of}
use Rattle.player.specs.Arrangements.{arrangement_in, arranged_row, PlaysWithin}
use Rattle.sections.specs.declared.runs.Run.{Run}
use Rattle.sections.specs.Runs.{lines_of}
use Rattle.judging.specs.declared.counts.LastCount.{LastCount}
use Rattle.judging.specs.declared.counts.SectionCounts.{SectionCounts}

abbrev pub no_count : LastCount
no_count = record { line = 0; start = 0; digits = 0; count = 0 }

-- A count stands at the end of its line: its digits are the last bytes of the text.
unfoldable pub count_place : LastCount → LyricLine → Option ℕ → LastCount
unfolding offset number_written
count_place t l none = t
count_place t l (some n) =
    record {
      line = l.number;
      start = offset (drop (length l.text - length (number_written n)) l.text);
      digits = length (number_written n);
      count = n;
    }

-- That of the last of the lines that has one.
unfoldable pub count_behind : LastCount → List LyricLine → LastCount
unfolding count_place count_of
count_behind t [] = t
count_behind t (l ∷ ls) = count_behind (count_place t l (count_of l)) ls

unfoldable pub last_count : List LyricLine → LastCount
unfolding count_behind
last_count ls = count_behind no_count ls

unfoldable pub section_counts : Song → Section → SectionCounts
unfolding counted played last_count
section_counts s x = record { sum = counted x.lyrics; measures = length (played s x); last = last_count x.lyrics }

-- As the code finds it: the line of the row with the last count, of the lines whose words these are, two words a line; a count of 0 is none.
abbrev pub no_lyric : Lyric
no_lyric = record { offset = 0; length = 0; number = 0; count = 0; style = 0 }

unfoldable pub later_of : Lyric → Lyric → Lyric
unfolding provided◌then◌else◌
later_of t l = provided eqb l.count 0 then t else l

unfoldable pub later_words : Lyric → List ℕ → Lyric
unfolding later_of
later_words t [] = t
later_words t (a ∷ []) = t
later_words t (a ∷ b ∷ ws) = later_words (later_of t (lyric_in a b)) ws

unfoldable pub later_in : List ℕ → Stretch → Lyric
unfolding later_words
later_in ws t = later_words no_lyric (drop t.from (take t.to ws))

-- The digits of a count end its line before a byte.
unfoldable pub count_ending : ℕ → ℕ → ℕ → LastCount
unfolding number_written
count_ending line stop zero = no_count
count_ending line stop (suc n) =
    record { line = line; start = stop - length (number_written (suc n)); digits = length (number_written (suc n)); count = suc n }

-- Where the line of the row ends in the text.
abbrev pub stop_in : List ℕ → Lyric → ℕ
stop_in s l = (line_at s l.number l.offset).stop

-- The digits of its count have room there.
pub record Ends (s : List ℕ) (l : Lyric) : Type 0 where
  pub few : l.count ≤ 9999
  pub fits : (l.count ≡ 0 → ⊥) → length (number_written l.count) ≤ stop_in s l

-- The section stands at the place of the row and plays what the definitions say; its lyric lines are those of a run of the text.
pub record Summable (s ws : List ℕ) (at : ℕ) (x : Section) : Type 0 where
  pub low : at ≤ 1000000
  pub within : PlaysWithin ws (arrangement_in ws (view_of ws at)) 0
  pub measures : length (arranged_row ws (arrangement_in ws (view_of ws at))) ≡ length (played (song_of s) x)
  pub words : Holds ws (view_of ws at).lyrics (flat_map lyric_row x.lyrics)
  pub ends : (view_of ws at).lyrics.to ≤ 1000000
  pub fits : LyricsFit x.lyrics
  pub run : Run
  pub lyrics : map lyric_line (lines_of s run) ≡ x.lyrics
