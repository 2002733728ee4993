-- The lines of measures from the words of the tables: a beat's letters stand in the file that its offset points into.
use Rattle.std.specs.Prelude.{ℕ, zero, suc, ◌-◌, ◌≤◌, ◌≡◌, ltb, length, take, drop, replicate}
use mathlib.Core.List.{List, [], ◌∷◌, ◌++◌, map, flat_map}
use Rattle.songcode.specs.Lists.{provided◌then◌else◌}
use Rattle.songcode.specs.Bytes.{ascii}
use Rattle.songcode.specs.Answer.Chords.{spelling_of}
use Rattle.songcode.specs.Description.Layout.{field}
use Rattle.songcode.specs.Song.{Beat}
use Rattle.songcode.specs.Answer.Flat.{letters_of, parted, spaced, end_line}
use Rattle.songcode.specs.Description.WrittenFlat.{stretch_at}
use Rattle.player.specs.Texts.{row_words}

-- What a beat sounds, by its letters; `_` for silence.
unfoldable pub letters_at : List ℕ → ℕ → List ℕ
unfolding provided◌then◌else◌ ascii spelling_of field stretch_at
letters_at s w = provided ltb 33 (field 26 6 w) then ascii "_" else (spelling_of (field 26 6 w) ++ stretch_at 10 16 5 5 s w)

-- "one space parts positions": it stands before every position but the first; the positions of a line from one on.
unfoldable pub gap : ℕ → List ℕ
gap zero = []
gap (suc i) = 32 ∷ []

unfoldable pub positions : ℕ → List (List ℕ) → List ℕ
unfolding parted spaced
positions zero ws = spaced ws
positions (suc i) ws = parted ws

-- "each as N positions, one a beat, missing beats as removers"
unfoldable pub measure_line : List ℕ → ℕ → List ℕ → List ℕ
unfolding spaced letters_at ascii
measure_line s n ws = spaced (map (letters_at s) ws ++ replicate (n - length ws) (ascii "="))

-- The beats of a measure in the table of beats, by the measure's word.
unfoldable pub beats_in : List ℕ → ℕ → List ℕ
unfolding field
beats_in bs w = take (field 5 6 w) (drop (field 11 21 w) bs)

-- The first measures of the two tables.
abbrev pub first_measures : ℕ → List ℕ → List ℕ → List (List ℕ)
first_measures k ms bs = map (beats_in bs) (take k ms)

-- "a measure has a line of its own"
unfoldable pub measure_lines : List ℕ → ℕ → List (List ℕ) → List ℕ
unfolding flat_map end_line measure_line
measure_lines s n row = flat_map (λ m. end_line (measure_line s n m)) row

-- "An empty pattern stays one, by naming an empty definition `$1`".
unfoldable pub pattern_lines : List ℕ → ℕ → List (List ℕ) → List ℕ
unfolding measure_lines end_line ascii
pattern_lines s n [] = end_line (ascii "$1")
pattern_lines s n (m ∷ row) = measure_lines s n (m ∷ row)

-- Small tables for a part of a section: every measure fits the table of beats twice, and there are as many words for measures.
pub record Lent (ms bs : List ℕ) : Type 0 where
  pub two : 64 ≤ length bs
  pub few : length bs ≤ 65536
  pub enough : length bs ≤ length ms

-- The words of a row give the letters of what it plays.
unfoldable pub Heard : List ℕ → List (List Beat) → Type 0
Heard s row = map (map (letters_at s)) (row_words row) ≡ map (map letters_of) row
