-- How the records of a song's tables follow on one another, read from the words alone: what the search for a beat and the light cues ask
-- of tables, in the words of document 02.
use Rattle.std.specs.Prelude.{ℕ, ◌+◌, ◌/◌, ◌%◌, ◌^◌, List, [], ◌∷◌, Bool, true, ◌&&◌, eqb, leb, length}
use Rattle.songcode.specs.Lists.{every}

-- measures: "first beat 21, beats 6", whatever the spare bits are.
unfoldable pub first_beat : ℕ → ℕ
first_beat word = word / 2 ^ 11

unfoldable pub beat_count : ℕ → ℕ
beat_count word = word / 2 ^ 5 % 2 ^ 6

-- The beat at which a record has ended.
unfoldable pub end_beat : ℕ → ℕ
unfolding first_beat beat_count
end_beat word = first_beat word + beat_count word

-- "every one has a beat or more and starts where the last ended"; the first starts at the given beat.
unfoldable pub follows : ℕ → List ℕ → Bool
unfolding first_beat beat_count end_beat
follows beat [] = true
follows beat (word ∷ words) = eqb (first_beat word) beat && (leb 1 (beat_count word) && follows (end_beat word) words)

-- sections: "header line 17, first measure 16, measures 16, N 6, bpm 9"
unfoldable pub first_measure : ℕ → ℕ
first_measure word = word / 2 ^ 31 % 2 ^ 16

unfoldable pub measure_count : ℕ → ℕ
measure_count word = word / 2 ^ 15 % 2 ^ 16

unfoldable pub section_bpm : ℕ → ℕ
section_bpm word = word % 2 ^ 9

-- Sections that "cover the measures in order without gap": so many come before the first, and so many there are.
unfoldable pub covers : ℕ → ℕ → List ℕ → Bool
unfolding first_measure measure_count
covers first measures [] = eqb first measures
covers first measures (word ∷ words) = eqb (first_measure word) first && covers (first + measure_count word) measures words

-- Not "more than 32 beats".
unfoldable pub is_short : ℕ → Bool
unfolding beat_count
is_short word = leb (beat_count word) 32

-- Measures that follow on one another from a beat, none "of 0 or more than 32 beats".
unfoldable pub measures_join : ℕ → List ℕ → Bool
unfolding follows is_short every
measures_join beat measures = follows beat measures && every is_short measures

-- Tables that join up; "the first at 0".
unfoldable pub join_up : List ℕ → List ℕ → Bool
unfolding covers measures_join
join_up sections measures = covers 0 (length measures) sections && measures_join 0 measures
