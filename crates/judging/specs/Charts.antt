-- A chart that stages 3 to 7 have judged.
use Rattle.std.specs.Prelude.{ℕ, ◌+◌, ◌<◌, ◌≤◌, ◌≡◌, List, [], length, take, Result, Some, MatchResult}
use Rattle.songcode.specs.Complaints.{verdict}
use Rattle.songcode.specs.Song.{Song}
use Rattle.songcode.specs.Answer.References.{reference_faults}
use Rattle.songcode.specs.Answer.Meter.{meter_faults, length_faults}
use Rattle.songcode.specs.Answer.Lyrics.{count_faults, sum_faults}
use Rattle.songcode.specs.Answer.Tables.{Tables, tables}
use Rattle.songcode.specs.Answer.Answer.{song_of}
use Rattle.refusals.specs.declared.Refusal.{Refusal}
use Rattle.refusals.specs.Refusals.{told}
use Rattle.score.specs.declared.stretches.Stretch.{Stretch}
use Rattle.score.specs.Fitting.{SectionsFit}
use Rattle.outlines.specs.Rows.{definitions_row, blocks_row, score_of}
use Rattle.judging.specs.declared.charts.Chart.{Chart}
use Rattle.judging.specs.declared.walking.Outcome.{Outcome}
use Rattle.laying.specs.Fronts.{DefinitionsFit}
use Rattle.laying.specs.Scores.{Begins}
use Rattle.judging.specs.Sums.{Holds}
use Rattle.judging.specs.Stages.{later_faults}

-- Nothing is wrong with the song in stages 3 to 7.
pub record Clear (song : Song) : Type 0 where
  pub references : reference_faults song ≡ []
  pub meters : meter_faults song ≡ []
  pub lengths : length_faults song 0 song.sections ≡ []
  pub counts : count_faults song ≡ []
  pub sums : sum_faults song ≡ []

-- Where the sections of the song stand in its row, and that every field has room.
pub record Sized (s ws : List ℕ) (rows : Stretch) : Type 0 where
  pub small : length s ≤ 65536
  pub room : length s < length ws
  pub from : rows.from ≡ length (definitions_row (song_of s).definitions (song_of s).definitions) + 1
  pub to : rows.to ≡ length (blocks_row (song_of s))
  pub short : rows.to ≤ length s + 3
  pub few : length (song_of s).definitions ≤ 26
  pub defined : DefinitionsFit (song_of s).definitions (song_of s).definitions
  pub fits : SectionsFit (song_of s) (song_of s).sections

-- The row begins with the whole song, and nothing is wrong with the song.
pub record Laid (s ws : List ℕ) (rows : Stretch) : Type 0 where
  pub whole : take (length (score_of (song_of s))) ws ≡ score_of (song_of s)
  pub sized : Sized s ws rows
  pub clear : Clear (song_of s)

-- Nothing is wrong with the song: the row begins with its definitions and sections, and so many words the tables take.
pub record LaidOut (s : List ℕ) (ws : List ℕ) (r : Outcome) : Type 0 where
  pub clear : Clear (song_of s)
  pub blocks : take r.rows.to ws ≡ blocks_row (song_of s)
  pub sized : Sized s ws r.rows
  pub holds : Holds (tables (song_of s)) r.totals

-- What stages 3 to 7 give of the song.
abbrev pub RefusedLater : List ℕ → Refusal → Type 0
RefusedLater s e = told (Some e) ≡ verdict (later_faults (song_of s))

-- The song can be written: it is laid, and so many words its tables take.
pub record Writable (s : List ℕ) (ws : List ℕ) (r : Chart) : Type 0 where
  pub begins : Begins s r.first
  pub laid : Laid s ws r.rows
  pub holds : Holds (tables (song_of s)) r.totals

-- The song can be written, or one of stages 3 to 7 refuses it.
abbrev pub Judges : List ℕ → List ℕ → Result Chart Refusal → Type 0
Judges s ws r = MatchResult r (Writable s ws) (RefusedLater s)

-- The tables are long enough.
pub record Roomy (t : Tables) (s m b i : List ℕ) : Type 0 where
  pub sections : length t.sections ≤ length s
  pub measures : length t.measures ≤ length m
  pub beats : length t.beats ≤ length b
  pub items : length t.items ≤ length i
