-- Sections that stand in the row one behind the other, and what a view of the first of them tells.
use Rattle.std.specs.Prelude.{ℕ, ◌+◌, ◌≤◌, ◌≡◌, length, take, drop}
use mathlib.Core.List.{List, ◌++◌, flat_map}
use Rattle.std.proofs.Math.Option.{Option, none, some}
use Rattle.songcode.specs.Song as song
use Rattle.songcode.specs.Song.{Section, Song}
use Rattle.songcode.specs.Answer.Playing.{time_of, bpm_of, repeats}
use Rattle.cuts.specs.declared.Cut.{Cut}
use Rattle.cuts.specs.Cuts.{cut_of}
use Rattle.score.specs.declared.stretches.Stretch.{Stretch}
use Rattle.score.specs.declared.views.View.{View}
use Rattle.score.specs.Even.{even_pattern}
use Rattle.score.specs.Sections.{side_row, pattern_row, lyric_row, sections_row}

-- These words stand in the stretch.
pub record Holds (ws : List ℕ) (t : Stretch) (new : List ℕ) : Type 0 where
  pub words : drop t.from (take t.to ws) ≡ new
  pub size : t.to ≡ t.from + length new

-- The sections stand from a place up to an end, whatever stands behind it.
pub record RowFrom (s : Song) (ws : List ℕ) (at end : ℕ) (xs : List Section) : Type 0 where
  pub words : drop at ws ≡ sections_row s xs ++ drop end ws
  pub size : end ≡ at + length (sections_row s xs)
  pub few : end ≤ 100000

-- A cut as the code has it; one that takes nothing where there is none.
unfoldable pub cut_taken : Option song.Cut → Cut
cut_taken none = cut_of 0 0
cut_taken (some c) = cut_of c.whole.measures c.further.beats

-- The view is that of the section.
pub record Sees (s : Song) (ws : List ℕ) (x : Section) (v : View) : Type 0 where
  pub meter : v.meter ≡ time_of s x
  pub tempo : v.tempo ≡ bpm_of s x
  pub header : v.header ≡ x.header
  pub repeat : v.repeat ≡ repeats x.modifiers
  pub even : v.even ≡ even_pattern s x
  pub front : v.front ≡ cut_taken x.modifiers.cut_start
  pub back : v.back ≡ cut_taken x.modifiers.cut_end
  pub lead : Holds ws v.lead (side_row x.modifiers.before)
  pub pattern : Holds ws v.pattern (pattern_row x.pattern)
  pub tail : Holds ws v.tail (side_row x.modifiers.after)
  pub lyrics : Holds ws v.lyrics (flat_map lyric_row x.lyrics)
