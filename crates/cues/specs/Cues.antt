-- "The lighting desk wants the start of each measure in microseconds", from the tables alone.
use Rattle.std.specs.Prelude.{ℕ, zero, suc, ◌+◌, ◌*◌, ◌/◌, List, [], ◌∷◌, ◌++◌, Bool, ◌||◌, ◌&&◌, eqb, leb, length, take, drop, Option, Some, None}
use Rattle.songcode.specs.Lists.{provided◌then◌else◌, every}
use Rattle.songcode.specs.Description.Joined.{beat_count, measure_count, section_bpm, join_up}
use Rattle.refusals.specs.declared.names.Why.{Why}
use Rattle.refusals.specs.declared.names.Why.TheVariants.{TableTooShort, NotJoined, NotTimed}

-- "entry 0 is 0, each other is 60,000,000 divided by bpm, rounded down"
unfoldable pub beat_length : ℕ → ℕ
beat_length zero = 0
beat_length (suc bpm) = 60000000 / suc bpm

-- How long each of some measures lasts at a bpm.
unfoldable pub lengths_at : ℕ → List ℕ → List ℕ
unfolding beat_length beat_count
lengths_at bpm [] = []
lengths_at bpm (word ∷ words) = beat_count word * beat_length bpm ∷ lengths_at bpm words

-- How long each measure lasts, section after section, "each at its section's bpm".
unfoldable pub lengths : List ℕ → List ℕ → List ℕ
unfolding lengths_at measure_count section_bpm
lengths [] measures = []
lengths (section ∷ sections) measures =
    lengths_at (section_bpm section) (take (measure_count section) measures) ++ lengths sections (drop (measure_count section) measures)

-- When each begins, the first at a given time.
unfoldable pub starts : ℕ → List ℕ → List ℕ
starts time [] = []
starts time (l ∷ ls) = time ∷ starts (time + l) ls

-- Not "a section with measures whose bpm is 0 or above 400".
unfoldable pub is_timed : ℕ → Bool
unfolding measure_count section_bpm
is_timed section = eqb (measure_count section) 0 || (leb 1 (section_bpm section) && leb (section_bpm section) 400)

-- "Refusals, in this order": 25, 26, 18; else none.
unfoldable pub refusal_of : List ℕ → List ℕ → ℕ → Option Why
unfolding join_up is_timed every provided◌then◌else◌
refusal_of sections measures lent =
    provided join_up sections measures
    then (provided every is_timed sections then (provided leb (length measures) lent then None else Some TableTooShort) else Some NotTimed)
    else Some NotJoined
