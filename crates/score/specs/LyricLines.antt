-- A lyric line of a section, read from its two words in the row.
use Rattle.std.specs.Prelude.{ℕ, ◌+◌, ◌/◌, ◌%◌, List, get_or}
use Rattle.score.specs.declared.lyrics.Lyric.{Lyric}

-- Its text's offset 16, length 16; its line less 1: 16, count 14, style 2.
unfoldable pub lyric_in : ℕ → ℕ → Lyric
lyric_in a b = record { offset = a / 65536; length = a % 65536; number = b / 65536 + 1; count = b / 4 % 16384; style = b % 4 }

unfoldable pub lyric_at : List ℕ → ℕ → Lyric
unfolding lyric_in
lyric_at ws at = lyric_in (get_or ws at 0) (get_or ws (at + 1) 0)
