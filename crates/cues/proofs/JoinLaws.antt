-- Tables that join up: what stops them.
use Prim.Native.Nat.{ℕ, suc, ◌<◌, ◌≤◌}
use mathlib.Core.Path.{◌≡◌}
use mathlib.Core.List.{List, ◌∷◌}
use mathlib.Core.Bool.{false, and-false}
use lib.Dec.{eqb, leb}
use lib.ListN.{length, drop, get_or}
use lib.Seq.{drop-cons}
use borrow.Author.Tests.{eqb-true, leb-true}
use Rattle.songcode.specs.Lists.{every}
use Rattle.songcode.specs.Description.Joined.{first_beat, beat_count, follows, is_short, measures_join}
use Rattle.songcode.proofs.ListLaws.{by_cases}

module _ (beat i : ℕ) (table : List ℕ) (l : i < length table) where
  -- The record at i does not start at the beat, or does not have 1 to 32 beats.
  pub join_stops : (first_beat (get_or table i 0) ≡ beat → 1 ≤ beat_count (get_or table i 0) → beat_count (get_or table i 0) ≤ 32 → ⊥)
      → measures_join beat (drop i table) ≡ false
  unfolding measures_join follows every is_short
  join_stops n =
      by_cases (eqb (first_beat (get_or table i 0)) beat)
      (λ f. by_cases (leb 1 (beat_count (get_or table i 0)))
      (λ a. by_cases (leb (beat_count (get_or table i 0)) 32)
      (λ b. absurd (n (eqb-true _ _ f) (leb-true _ _ a) (leb-true _ _ b)))
      (λ b. rw (drop-cons table i 0 l, b) (and-false (follows beat (get_or table i 0 ∷ drop (suc i) table)))))
      (λ a. rw (drop-cons table i 0 l, f, a)))
      (λ f. rw (drop-cons table i 0 l, f))
