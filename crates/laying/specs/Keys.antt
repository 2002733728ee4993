-- The words of the keys table, from the settings that the lines of the metadata say.
use Rattle.std.specs.Prelude.{ℕ, ◌<◌, ◌≤◌, List, ◌⊎◌, length}
use Rattle.std.proofs.Math.Option.{Option, none, some}
use Rattle.songcode.specs.Bytes.{Byte}
use Rattle.songcode.specs.Answer.Characters.{characters}
use Rattle.songcode.specs.Answer.SongText.{metadata_lines}
use Rattle.songcode.specs.Answer.Tables.{key_word}
use Rattle.songcode.specs.Answer.Answer.{blocks_of}
use Rattle.sections.specs.declared.gathering.Gathered.{Gathered}
use Rattle.sections.specs.Slots.{Setting}
use Rattle.sections.specs.Gathering.{said_by, FirstSaid}

-- The word of a key's setting, where it is found.
unfoldable pub word_of_setting : Option Setting → ℕ
unfolding key_word
word_of_setting none = 0
word_of_setting (some x) = key_word (some x.text)

-- A setting is not empty, and has at most 511 bytes or at most 100 characters.
abbrev pub ShortText : List Byte → Type 0
ShortText bs = (0 < length bs) × ((length bs < 512) ⊎ (characters bs ≤ 100))

unfoldable pub ShortSetting : Option Setting → Type 0
ShortSetting none = Unit {0}
ShortSetting (some x) = ShortText x.text

-- The first settings of the song's own keys, by their number.
pub record SongSays (s : List ℕ) (g : Gathered) : Type 0 where
  pub each : (k : ℕ) → k < 8 → FirstSaid s (metadata_lines (blocks_of s)) k (said_by g k)
