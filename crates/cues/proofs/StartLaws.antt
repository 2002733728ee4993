-- Starts and lengths of measures, one measure or one section at a time.
use Prim.Native.Nat.{ℕ, zero, suc, ◌+◌, ◌*◌, ◌<◌, ◌≤◌}
use mathlib.Core.Path.{◌≡◌, subst}
use mathlib.Core.List.{List, [], ◌∷◌}
use native.Mathlib.Numerals.{add-one}
use native.Mathlib.Omega.{arith}
use native.Mathlib.Nat.{div-le_self}
use lib.ListN.{length, drop, get_or, set, drop_of_length-le}
use lib.Seq.{drop-cons}
use Rattle.songcode.specs.Lists.{sum}
use Rattle.songcode.specs.Description.Joined.{beat_count}
use Rattle.songcode.proofs.MemoryLaws.{Wrote, wrote_put}
use Rattle.cues.specs.Cues.{beat_length, lengths_at, starts}

-- No beat lasts longer than a minute.
pub beat_length_le : (bpm : ℕ) → beat_length bpm ≤ 60000000
unfolding beat_length
beat_length_le zero = omega arith
beat_length_le (suc bpm) = div-le_self 60000000 (suc bpm)

-- The measure at i lasts as its beats do; then come the others.
pub lengths_next : (bpm i : ℕ) (table : List ℕ) → i < length table
    → lengths_at bpm (drop i table) ≡ beat_count (get_or table i 0) * beat_length bpm ∷ lengths_at bpm (drop (i + 1) table)
unfolding lengths_at
lengths_next bpm i table l = rw (add-one i, drop-cons table i 0 l)

pub lengths_over : (bpm i : ℕ) (table : List ℕ) → length table ≤ i → lengths_at bpm (drop i table) ≡ []
unfolding lengths_at
lengths_over bpm i table l = rw (drop_of_length-le table {i = i} l)

module _ (bpm i at : ℕ) (table : List ℕ) (l : i < length table) where
  pub sum_next : at + sum (lengths_at bpm (drop i table)) ≡ at + beat_count (get_or table i 0) * beat_length bpm + sum (lengths_at bpm (drop (i + 1) table))
  unfolding sum
  sum_next = rw (lengths_next bpm i table l) (omega arith)

  pub starts_next : (o o' all : List ℕ) → Wrote o i o' (starts at (lengths_at bpm (drop i table))) all
      → Wrote o (i + 1) (set o' i at) (starts (at + beat_count (get_or table i 0) * beat_length bpm) (lengths_at bpm (drop (i + 1) table))) all
  unfolding starts
  starts_next o o' all w =
      wrote_put o i o' (starts (at + beat_count (get_or table i 0) * beat_length bpm) (lengths_at bpm (drop (i + 1) table))) all at
      (subst (λ xs. Wrote o i o' (starts at xs) all) (lengths_next bpm i table l) w)

module _ (bpm i at : ℕ) (table : List ℕ) (l : length table ≤ i) where
  pub sum_over : at + sum (lengths_at bpm (drop i table)) ≡ at
  unfolding sum
  sum_over = rw (lengths_over bpm i table l) (omega arith)

  pub starts_over : (o o' all : List ℕ) → Wrote o i o' (starts at (lengths_at bpm (drop i table))) all → Wrote o i o' [] all
  unfolding starts
  starts_over o o' all w = subst (λ xs. Wrote o i o' (starts at xs) all) (lengths_over bpm i table l) w
