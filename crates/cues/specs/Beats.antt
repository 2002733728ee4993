-- "A start is the sum of all beats before, each at its section's bpm", described a second time: beat by beat, each looked up by its number.
use Rattle.std.specs.Prelude.{ℕ, zero, suc, ◌+◌, List, [], ◌∷◌, Bool, ◌&&◌, leb, ltb}
use Rattle.songcode.specs.Lists.{provided◌then◌else◌}
use Rattle.songcode.specs.Description.Joined.{first_beat, beat_count, first_measure, measure_count, section_bpm}
use Rattle.cues.specs.Cues.{beat_length}

-- A number is one of so many from a first on.
unfoldable pub is_among : ℕ → ℕ → ℕ → Bool
is_among first many n = leb first n && ltb n (first + many)

-- The number of the measure that has a beat.
unfoldable pub measure_of : List ℕ → ℕ → ℕ
unfolding is_among first_beat beat_count provided◌then◌else◌
measure_of [] beat = 0
measure_of (word ∷ words) beat = provided is_among (first_beat word) (beat_count word) beat then 0 else suc (measure_of words beat)

-- The bpm of the section that has a measure.
unfoldable pub bpm_of : List ℕ → ℕ → ℕ
unfolding is_among first_measure measure_count section_bpm provided◌then◌else◌
bpm_of [] measure = 0
bpm_of (section ∷ sections) measure =
    provided is_among (first_measure section) (measure_count section) measure then section_bpm section else bpm_of sections measure

-- How long a beat lasts, "at its section's bpm".
unfoldable pub lasts : List ℕ → List ℕ → ℕ → ℕ
unfolding beat_length bpm_of measure_of
lasts sections measures beat = beat_length (bpm_of sections (measure_of measures beat))

-- "the sum of all beats before" a beat.
unfoldable pub sum_before : (ℕ → ℕ) → ℕ → ℕ
sum_before f zero = 0
sum_before f (suc beat) = sum_before f beat + f beat
