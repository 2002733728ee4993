-- The third demand, of the tables: "In an accepted song each section is, beat for beat, its lead-in, then its pattern as often as it is repeated
-- less the two cuts, then its tail, all counted in that section's own meter." "each section's measures and beats go into their own stretch".
use Rattle.std.specs.Prelude.{ℕ, ◌≡◌, length}
use mathlib.Core.List.{List, [], ◌∷◌, ◌++◌, map, flat_map}
use Rattle.songcode.specs.Song.{Section, Song}
use Rattle.songcode.specs.Answer.Tables.{Tables}
use Rattle.songcode.specs.Description.Performance.{Parts, PlaysSection, joined}
use Rattle.songcode.specs.Description.WrittenSong.{WrittenChart}
use Rattle.songcode.specs.Description.Layout.{sections_row, laid}
use Rattle.songcode.specs.Description.WrittenTables.{row_words, beat_laid}

-- A section's own stretch: its word at its place, which names the measures before it, and its measures and beats behind those of the sections before.
pub record Stretch (t : Tables) (place : ℕ) (x : Section) (p : Parts) : Type 0 where
  pub sections_before : List ℕ
  pub sections_behind : List ℕ
  pub measures_before : List ℕ
  pub measures_behind : List ℕ
  pub beats_before : List ℕ
  pub beats_behind : List ℕ
  pub in_place : length sections_before ≡ place
  pub sections :
      t.sections
      ≡ sections_before ++ (laid sections_row (x.header ∷ length measures_before ∷ length (joined p) ∷ p.meter ∷ p.tempo ∷ []) ∷ sections_behind)
  pub measures : t.measures ≡ measures_before ++ (row_words (length beats_before) (joined p) ++ measures_behind)
  pub beats : t.beats ≡ beats_before ++ (flat_map (map beat_laid) (joined p) ++ beats_behind)

-- Each section of the song that the bytes are, with what it plays.
pub record EachSection (bs : List ℕ) (t : Tables) : Type 0 where
  pub song : Song
  pub written : WrittenChart bs song
  pub stretches :
      (front behind : List Section) (x : Section) → song.sections ≡ front ++ (x ∷ behind) → (p : Parts) × PlaysSection song x p × Stretch t (length front) x p
