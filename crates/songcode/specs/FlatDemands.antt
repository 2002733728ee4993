-- What is asked of the flat copy, said of the definitions.
use Rattle.std.specs.Prelude.{ℕ, ◌*◌, ◌≤◌, ◌≡◌, ◌↔◌, length}
use mathlib.Core.List.{List, [], ◌∷◌, map, flat_map}
use Rattle.std.proofs.Math.Option.{some}
use Rattle.songcode.specs.Lists.{times}
use Rattle.songcode.specs.Bytes.{ascii}
use Rattle.songcode.specs.Complaints.{complaint}
use Rattle.songcode.specs.Song.{Beat}
use Rattle.songcode.specs.Answer.Tables.{Tables}
use Rattle.songcode.specs.Answer.Answer.{song_stages, most_bytes, Room, answer, accepted}
use Rattle.songcode.specs.Answer.Answer as Reading
use Rattle.songcode.specs.Description.Performance.{total}
use Rattle.songcode.specs.Description.Given.{Given}
use Rattle.songcode.specs.Answer.Flat.{copy_of, flat_stages, refused, copied, flat_answer, flat_pattern, end_line}
use Rattle.songcode.specs.Description.WrittenFlat.{Copied, ReadsBack, row_length, pattern_length}
use Rattle.songcode.specs.FlatCharts.{flat_charts}

-- Every measure has a beat, and no more than N.
unfoldable pub Within : ℕ → List (List Beat) → Type 0
Within n [] = Unit {0}
Within n (m ∷ row) = (1 ≤ length m) × (length m ≤ n) × Within n row

pub record FlatDemands : Type 0 where
  -- The copy is the described one, exactly for songs; no song has two.
  pub copied_exactly : (bs copy : List ℕ) → (copy_of bs ≡ some copy) ↔ Copied bs copy
  pub one_copy : (bs copy other : List ℕ) → Copied bs copy → Copied bs other → copy ≡ other
  -- "Refusals: the song's 1 to 17; then 20".
  pub refused_exactly : (lent : ℕ) (bs : List ℕ) (number line : ℕ)
      → (flat_answer lent bs ≡ refused number line) ↔ Given (flat_stages lent bs) (complaint number line)
  pub answered_exactly : (lent : ℕ) (bs copy : List ℕ)
      → (flat_answer lent bs ≡ copied copy) ↔ (Copied bs copy × (length copy ≤ lent) × (length copy ≤ most_bytes))
  -- The song's own refusals are the reader's, whatever tables are lent to it: all of them but 18.
  pub as_the_reader : (room : Room) (bs : List ℕ) (number line : ℕ) → Given (song_stages bs) (complaint number line)
      → answer room bs ≡ Reading.refused number line
  -- "Read again", in every room in which the song is read.
  pub reads_back : (room : Room) (bs copy : List ℕ) (t : Tables) → answer room bs ≡ accepted t → Copied bs copy → length copy ≤ most_bytes
      → (u : Tables) × (answer room copy ≡ accepted u) × ReadsBack bs copy t u
  -- A copy is its own copy.
  pub copied_again : (bs copy : List ℕ) → Copied bs copy → length copy ≤ most_bytes → Copied copy copy
  -- Songs with their copies.
  pub charts : map (λ c. copy_of (ascii c.song)) flat_charts ≡ map (λ c. some (ascii c.copy)) flat_charts
  -- The length without the bytes: loops and repeats multiply the letters, beats and measures that it is made of.
  pub pattern_length_lem : (n : ℕ) (row : List (List Beat)) → Within n row → length (flat_map end_line (flat_pattern n row)) ≡ pattern_length n row
  pub length_repeated : (k : ℕ) (row : List (List Beat))
      → (row_length (times k row) ≡ k * row_length row) × (total (times k row) ≡ k * total row) × (length (times k row) ≡ k * length row)
