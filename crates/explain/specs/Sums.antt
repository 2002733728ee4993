-- Refusal 17: what the counts of a section sum to, and how many measures it plays.
use Rattle.std.specs.Prelude.{ℕ, ◌≤◌, ◌≡◌, length}
use mathlib.Core.List.{List, [], Memᴰ}
use Rattle.songcode.specs.Song.{Section}
use Rattle.songcode.specs.Answer.SongText.{text_faults}
use Rattle.songcode.specs.Answer.References.{reference_faults}
use Rattle.songcode.specs.Answer.Playing.{played}
use Rattle.songcode.specs.Answer.Meter.{meter_faults, length_faults}
use Rattle.songcode.specs.Answer.Lyrics.{counted}
use Rattle.songcode.specs.Answer.Answer.{blocks_of, song_of}
use Rattle.explain.specs.declared.sums.Summed.{Summed}
use Rattle.explain.specs.declared.Explained.{Explained}

-- Stages 1 to 5 have nothing against the chart: its sections can be played.
pub record Playable (s : List ℕ) : Type 0 where
  pub small : length s ≤ 65536
  pub text : text_faults (blocks_of s) ≡ []
  pub references : reference_faults (song_of s) ≡ []
  pub meters : meter_faults (song_of s) ≡ []
  pub lengths : length_faults (song_of s) 0 (song_of s).sections ≡ []

-- Of the section with this header.
pub record SumsAt (s : List ℕ) (line : ℕ) (r : Summed) : Type 0 where
  pub is : (x : Section) → Memᴰ x (song_of s).sections → x.header ≡ line → (r.sum ≡ counted x.lyrics) × (r.measures ≡ length (played (song_of s) x))

-- The numbers that are told are those of the section whose header the verdict names.
pub record SumNamed (text : List ℕ) (r : Explained) : Type 0 where
  pub section : Section
  pub listed : Memᴰ section (song_of text).sections
  pub header : section.header ≡ r.line
  pub sum : r.first ≡ counted section.lyrics
  pub measures : r.second ≡ length (played (song_of text) section)
