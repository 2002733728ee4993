-- What is promised of the second call: that its search is the halving rule, described a second time and without a count of turns; how
-- many probes it makes; and that on the table of a song it finds what document 01 asked for. `proofs/JumpsProved.antt` proves all of it.
use Rattle.std.specs.Prelude.{ℕ, suc, ◌≤◌, ◌<◌, ◌≡◌, ◌↔◌, List, [], ◌∷◌, map, true, length, get_or, replicate}
use Rattle.std.proofs.Math.Option.{Option, none, some}
use Rattle.songcode.specs.Description.Joined.{first_beat, end_beat, follows}
use Rattle.songcode.specs.Answer.Finding.{half, Jump, jump_to}

-- A record holds a beat.
unfoldable pub Holds : ℕ → ℕ → Type 0
Holds beat word = (first_beat word ≤ beat) × (beat < end_beat word)

-- What the rule gives for the range from start to end: a place or none, and the probes.
pub data Halves (beat : ℕ) (table : List ℕ) : ℕ → ℕ → Option ℕ → ℕ → Type 0 where
  empty : {start end : ℕ} → end ≤ start → Halves beat table start end none 0
  held : {start end place : ℕ} → start < end → place ≡ half start end → Holds beat (get_or table place 0) → Halves beat table start end (some place) 1
  before : {start end place probes : ℕ} {found : Option ℕ} → start < end → place ≡ half start end → beat < first_beat (get_or table place 0)
      → Halves beat table start place found probes → Halves beat table start end found (suc probes)
  past : {start end place probes : ℕ} {found : Option ℕ} → start < end → place ≡ half start end → end_beat (get_or table place 0) ≤ beat
      → Halves beat table (suc place) end found probes → Halves beat table start end found (suc probes)

-- Document 01's rule, which the halving amends: "the place of the first record that holds that beat".
pub record FirstHolding (beat : ℕ) (table : List ℕ) (place : ℕ) : Type 0 where
  pub inside : place < length table
  pub held : Holds beat (get_or table place 0)
  pub none_before : (earlier : ℕ) → earlier < place → Holds beat (get_or table earlier 0) → ⊥

-- Searches by computation: the table, the beat, and what is found after how many probes.
pub record JumpTrial : Type 0 where
  pub table : List ℕ
  pub beat : ℕ
  pub found : Jump

abbrev finds : List ℕ → ℕ → ℕ → ℕ → JumpTrial
finds table beat place probes =
    record { table = table; beat = beat; found = record { place = some place; probes = probes } }

abbrev misses : List ℕ → ℕ → ℕ → JumpTrial
misses table beat probes =
    record { table = table; beat = beat; found = record { place = none; probes = probes } }

unfoldable pub trials : List JumpTrial
trials =
    -- four beats from 0 and four from 4; their ends
    finds (128 ∷ 8320 ∷ []) 0 0 2
    ∷ finds (128 ∷ 8320 ∷ []) 3 0 2
    ∷ finds (128 ∷ 8320 ∷ []) 4 1 1
    ∷ finds (128 ∷ 8320 ∷ []) 7 1 1
    ∷ misses (128 ∷ 8320 ∷ []) 8 1
    ∷ misses [] 0 0
    -- a record without beats is passed; spare bits say nothing
    ∷ misses (0 ∷ []) 0 1
    ∷ misses (31 ∷ []) 0 1
    -- three equal records: not the first; records in the wrong order: none, though one holds the beat
    ∷ finds (128 ∷ 128 ∷ 128 ∷ []) 0 1 1
    ∷ misses (16512 ∷ 8320 ∷ 128 ∷ []) 0 2
    -- the last beats that a record can name
    ∷ finds (4294967295 ∷ []) 2097213 0 1
    ∷ misses (4294967295 ∷ []) 2097214 1
    ∷ []

pub record Jumps : Type 0 where
  -- "equal to those of this rule": place and probes are those of the halving rule, and of no other.
  pub halved : (beat : ℕ) (table : List ℕ) → length table ≤ 65535 → (place : Option ℕ) (probes : ℕ)
      → (jump_to beat table ≡ record { place = place; probes = probes }) ↔ Halves beat table 0 (length table) place probes
  pub too_long : (beat : ℕ) (table : List ℕ) → 65535 < length table → jump_to beat table ≡ record { place = none; probes = 0 }
  -- "they are never more than 16", and no smaller number would do.
  pub at_most_16 : (beat : ℕ) (table : List ℕ) → (jump_to beat table).probes ≤ 16
  pub sixteen_made : (jump_to 0 (replicate 65535 0)).probes ≡ 16
  -- "Where there are at most 65,535 records and every one has a beat or more and starts where the last ended, the place is the same as before".
  pub as_before : (first beat : ℕ) (table : List ℕ) → length table ≤ 65535 → follows first table ≡ true → (place : ℕ)
      → ((jump_to beat table).place ≡ some place) ↔ FirstHolding beat table place
  pub none_as_before : (first beat : ℕ) (table : List ℕ) → length table ≤ 65535 → follows first table ≡ true
      → ((jump_to beat table).place ≡ none) ↔ ((place : ℕ) → place < length table → Holds beat (get_or table place 0) → ⊥)
  pub tried : map (λ t. jump_to t.beat t.table) trials ≡ map (λ t. t.found) trials
