-- The two cuts as one window: beats passed over, beats kept.
use Rattle.std.specs.Prelude.{ℕ, ◌+◌, ◌-◌, List, [], ◌∷◌, ◌++◌, length, take, drop}
use Rattle.std.proofs.Math.Option.{Option, none, some}
use Rattle.songcode.specs.Lists.{times}
use Rattle.songcode.specs.Song as Song
use Rattle.songcode.specs.Answer.Tables.{measure_word}
use Rattle.songcode.specs.Answer.Playing.{keep}
use Rattle.songcode.specs.Description.Performance.{total}
use Rattle.cuts.specs.declared.Cut.{Cut}

-- A cut of the description as the code's value.
unfoldable pub cut_of : Song.Cut → Cut
cut_of c = record { measures = record { 0 = c.whole.measures }; beats = record { 0 = c.further.beats } }

-- A cut that may be absent: then it takes nothing.
unfoldable pub cut_said : Option Song.Cut → Cut
unfolding cut_of
cut_said none = record { measures = record { 0 = 0 }; beats = record { 0 = 0 } }
cut_said (some c) = cut_of c

module _ {A : Type 0} where
  -- What is left when s beats are passed over and n are kept; a measure with no beats left is gone.
  unfoldable pub window : ℕ → ℕ → List (List A) → List (List A)
  unfolding keep
  window s n [] = []
  window s n (x ∷ xs) = keep (take n (drop s x)) (window (s - length x) (n - (length x - s)) xs)

  -- The beat from which a row is kept, and the beat before which it ends.
  unfoldable pub first_beat : Cut → List (List A) → ℕ
  unfolding total
  first_beat c row = total (take c.measures.0 row) + c.beats.0

  unfoldable pub last_beat : Cut → List (List A) → ℕ
  unfolding total
  last_beat c row = total (take (length row - c.measures.0) row) - c.beats.0

  unfoldable pub kept_of : Cut → Cut → List (List A) → List (List A)
  unfolding window first_beat last_beat
  kept_of f b row = window (first_beat f row) (last_beat b row - first_beat f row) row

  -- Every beat of a row.
  unfoldable pub whole_of : List (List A) → List (List A)
  unfolding window total
  whole_of row = window 0 (total row) row

  -- A section: its lead-in, its pattern as often as it is repeated less the cuts, its tail.
  unfoldable pub section_row : Cut → Cut → ℕ → List (List A) → List (List A) → List (List A) → List (List A)
  unfolding whole_of kept_of times
  section_row f b r lead row tail = whole_of lead ++ (kept_of f b (times r row) ++ whole_of tail)

  unfoldable pub flat : List (List A) → List A
  flat [] = []
  flat (x ∷ xs) = x ++ flat xs

  -- The words of a row's measures, its first beat at f.
  unfoldable pub heads : ℕ → List (List A) → List ℕ
  unfolding measure_word
  heads f [] = []
  heads f (x ∷ xs) = measure_word f (length x) ∷ heads (f + length x) xs
