-- Lines of the text, taken over into the copy.
use Rattle.std.specs.Prelude.{ℕ, ◌+◌, ◌≤◌, ◌≡◌, Bool, true, false, length}
use mathlib.Core.List.{List, map, flat_map}
use Rattle.songcode.specs.Lists.{taken, left}
use Rattle.songcode.specs.Answer.Lines.{Line}
use Rattle.songcode.specs.Answer.Sections.{is_key_line}
use Rattle.songcode.specs.Answer.Flat.{text_of, end_line}
use Rattle.settings.specs.declared.kinds.Kind.{Kind}
use Rattle.settings.specs.declared.kinds.Kind.TheVariants.{Key, Modifier, Pattern}
use Rattle.sections.specs.declared.blocks.Place.{Place}
use Rattle.sections.specs.declared.runs.Test.TheVariants.{Full, Body}
use Rattle.sections.specs.Runs.{text_lines, passing}

-- "Lines, trimmed, end in LF"
unfoldable pub line_bytes : List Line → List ℕ
unfolding flat_map end_line text_of
line_bytes ls = flat_map end_line (map text_of ls)

-- A key line, by its kind.
abbrev pub is_key : Kind → Bool
is_key Key = true
is_key Modifier = false
is_key Pattern = false

-- The key lines from a line on, and those behind them; the lines of a section from its `--` on, where a line between its header and these stands at a
-- place, and those behind its block.
abbrev pub keys_from : List ℕ → ℕ → ℕ → List Line
keys_from s n at = taken is_key_line (text_lines s n at)

abbrev pub keys_left : List ℕ → ℕ → ℕ → List Line
keys_left s n at = left is_key_line (text_lines s n at)

abbrev pub ending_from : List ℕ → ℕ → ℕ → List Line
ending_from s n at = taken (passing Full) (left (passing Body) (text_lines s n at))

abbrev pub ending_left : List ℕ → ℕ → ℕ → List Line
ending_left s n at = left (passing Full) (left (passing Body) (text_lines s n at))

-- From a byte on the text is passed up to a place: these lines are left.
pub record Reaches (s : List ℕ) (from : ℕ) (ls : List Line) (p : Place) : Type 0 where
  pub number : 1 ≤ p.number
  pub counted : p.number ≤ p.at + 1
  pub onward : from ≤ p.at
  pub inside : p.at ≤ length s
  pub lines : text_lines s p.number p.at ≡ ls
