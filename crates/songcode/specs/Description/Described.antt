-- A chart that is accepted, by the description alone: a written song that fits its stages, for which the lent tables have room, and its tables.
use Rattle.std.specs.Prelude.{ℕ, ◌≤◌, List, length}
use Rattle.songcode.specs.Song.{Song}
use Rattle.songcode.specs.Description.Performance.{Parts}
use Rattle.songcode.specs.Description.WrittenSong.{WrittenChart}
use Rattle.songcode.specs.Description.Fits.{Fits}
use Rattle.songcode.specs.Answer.Tables.{Tables}
use Rattle.songcode.specs.Description.WrittenTables.{WrittenTables}
use Rattle.songcode.specs.Answer.Answer.{Room}

-- "the lent tables have room"
pub record HasRoom (room : Room) (t : Tables) : Type 0 where
  pub keys : length t.keys ≤ room.keys
  pub sections : length t.sections ≤ room.sections
  pub measures : length t.measures ≤ room.measures
  pub beats : length t.beats ≤ room.beats
  pub items : length t.items ≤ room.items

-- "A file is accepted exactly when it is a song by the description in document 01 and the lent tables have room."
pub record Described (room : Room) (bs : List ℕ) (t : Tables) : Type 0 where
  pub song : Song
  pub parts : List Parts
  pub written : WrittenChart bs song
  pub fits : Fits song parts
  pub words : WrittenTables song parts t
  pub fitting : HasRoom room t
