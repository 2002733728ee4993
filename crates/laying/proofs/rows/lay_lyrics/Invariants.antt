-- The words of the lines passed are laid, those of the lines left have room behind them.
use Prim.Native.Nat.{ℕ, ◌+◌, ◌-◌, ◌<◌, ◌≤◌}
use mathlib.Core.Path.{◌≡◌}
use mathlib.Core.List.{List, ◌++◌, flat_map}
use lib.ListN.{length}
use lib.Seq.{sets}
use Rattle.songcode.specs.Song.{LyricLine}
use Rattle.score.specs.Sections.{lyric_row}
use Rattle.score.specs.Fitting.{LyricsFit}
use Rattle.laying.proofs.LyricRowLaws.{lyrics_at}
use Rattle.laying.proofs.rows.lay_lyrics.Given as goal

pub record Passed (n : ℕ) (held words : List ℕ) (fill : ℕ) (left all : List LyricLine) : Type 0 where
  pub done : List LyricLine
  pub there : words ≡ sets held n (flat_map lyric_row done)
  pub filled : fill ≡ n + length (flat_map lyric_row done)
  pub same : done ++ left ≡ all
  pub fit : LyricsFit done

abbrev pub invariant-loop : goal.invariant-loop
invariant-loop l =
    (1 ≤ l.number)
    × (l.number ≤ l.at + 1)
    × (l.at ≤ length l.s)
    × (0 < length (lyrics_at l.s l.number l.at (l.end - l.counter)) → 2 ≤ l.number)
    × Passed l.n l.initial.words l.words l.fill (lyrics_at l.s l.number l.at (l.end - l.counter))
    (lyrics_at l.s l.fn.run.number l.fn.run.at l.fn.run.lines)
