-- Line ends, byte by byte.
use Rattle.std.specs.Prelude.{ℕ, List, Bool, ◌||◌, ◌&&◌, not, eqb, length}
use Rattle.songcode.specs.Bytes.{placed}
use Rattle.songcode.specs.Answer.Lines.{cut_lines}

-- A line ends with the byte: LF, or a CR that no LF follows.
unfoldable pub ends_line : ℕ → ℕ → Bool
ends_line b next = eqb b 10 || (eqb b 13 && not (eqb next 10))

-- How many line ends a text holds: as many as there are lines behind the first.
abbrev pub line_ends : List ℕ → ℕ
line_ends bs = length (cut_lines (placed 0 bs)).others
