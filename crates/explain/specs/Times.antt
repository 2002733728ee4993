-- N of the section that holds a line.
use Rattle.std.specs.Prelude.{ℕ, ◌≡◌}
use mathlib.Core.List.{List, Memᴰ}
use Rattle.songcode.specs.Answer.Lines.{Block}
use Rattle.songcode.specs.Answer.Sections.{section_in}
use Rattle.songcode.specs.Answer.SongText.{section_blocks}
use Rattle.songcode.specs.Answer.Playing.{time_of}
use Rattle.songcode.specs.Answer.Answer.{blocks_of, song_of}
use Rattle.slips.specs.BlocksMet.{Holds}

pub record TimeAt (s : List ℕ) (line time : ℕ) : Type 0 where
  pub is : (b : Block) → Memᴰ b (section_blocks (blocks_of s)) → Holds b line → time ≡ time_of (song_of s) (section_in b)
