-- What is promised of light cues beyond the contract: "A start is the sum of all beats before", a song that was read joins up, and cues by
-- computation.
use Rattle.std.specs.Prelude.{ℕ, ◌<◌, ◌≡◌, List, [], ◌∷◌, map, true, length, take, get_or, Option, None}
use Rattle.songcode.specs.Lists.{sum}
use Rattle.songcode.specs.Description.Joined.{first_beat, beat_count, join_up}
use Rattle.songcode.specs.Answer.Tables.{Tables}
use Rattle.songcode.specs.Answer.Answer.{Room, answer, accepted}
use Rattle.refusals.specs.declared.names.Why.{Why}
use Rattle.cues.specs.Cues.{beat_length, lengths, starts, refusal_of}
use Rattle.cues.specs.Beats.{lasts, sum_before}

-- Tables, with the refusal, the starts and the end that they get where the cue table is as long as the measures.
pub record Trial : Type 0 where
  pub sections : List ℕ
  pub measures : List ℕ
  pub refusal : Option Why
  pub cues : List ℕ
  pub end : ℕ

abbrev trial : List ℕ → List ℕ → Option Why → List ℕ → ℕ → Trial
trial sections measures refusal cues end =
    record { sections = sections; measures = measures; refusal = refusal; cues = cues; end = end }

unfoldable pub trials : List Trial
trials =
    -- four, four and three beats at 120; then the last four and three at 90
    trial (140737488455800 ∷ []) (128 ∷ 8320 ∷ 16480 ∷ []) None (0 ∷ 2000000 ∷ 4000000 ∷ []) 5500000
    ∷ trial (140737488390264 ∷ 140739635906650 ∷ []) (128 ∷ 8320 ∷ 16480 ∷ []) None (0 ∷ 2000000 ∷ 4666664 ∷ []) 6666662
    ∷ trial [] [] None [] 0
    ∷ []

pub record Demands : Type 0 where
  pub start_is_sum : (sections measures : List ℕ) (k : ℕ) → k < length (lengths sections measures)
      → get_or (starts 0 (lengths sections measures)) k 0 ≡ sum (take k (lengths sections measures))
  -- "each at its section's bpm": the same starts and the same end, beat by beat.
  pub start_by_beats : (sections measures : List ℕ) → join_up sections measures ≡ true → (k : ℕ) → k < length measures
      → get_or (starts 0 (lengths sections measures)) k 0 ≡ sum_before (lasts sections measures) (first_beat (get_or measures k 0))
  pub end_by_beats : (sections measures : List ℕ) → join_up sections measures ≡ true
      → sum (lengths sections measures) ≡ sum_before (lasts sections measures) (sum (map beat_count measures))
  -- The tables of an accepted song join up: 25 is never given for a song just read.
  pub song_joins : (room : Room) (bs : List ℕ) (t : Tables) → answer room bs ≡ accepted t → join_up t.sections t.measures ≡ true
  pub tried : map (λ t. refusal_of t.sections t.measures (length t.measures)) trials ≡ map (λ t. t.refusal) trials
  pub tried_starts : map (λ t. starts 0 (lengths t.sections t.measures)) trials ≡ map (λ t. t.cues) trials
  pub tried_ends : map (λ t. sum (lengths t.sections t.measures)) trials ≡ map (λ t. t.end) trials
  -- "entry 0 is 0, each other is 60,000,000 divided by bpm, rounded down"
  pub entries : map beat_length (0 ∷ 1 ∷ 7 ∷ 399 ∷ 400 ∷ []) ≡ 0 ∷ 60000000 ∷ 8571428 ∷ 150375 ∷ 150000 ∷ []
