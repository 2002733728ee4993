-- Records that follow on one another stand apart: one that comes later starts no earlier than where an earlier one ended.
use Prim.Native.Nat.{ℕ, zero, suc, ◌+◌, ◌<◌, ◌≤◌}
use mathlib.Core.Path.{◌≡◌}
use mathlib.Core.List.{List, [], ◌∷◌}
use mathlib.Core.Bool.{true, ◌&&◌}
use native.Mathlib.Omega.{arith}
use lib.Dec.{eqb, leb, ltb}
use lib.ListN.{length, get_or}
use borrow.Author.Tests.{eqb-true, leb-true, ltb-true, ltb-false}
use Rattle.songcode.specs.Description.Joined.{first_beat, beat_count, end_beat, follows}
use Rattle.songcode.specs.Jumps.{Holds}
use Rattle.songcode.proofs.ListLaws.{by_cases, both_pass}

-- What a record and those behind it say.
pub follow_parts : (at w : ℕ) (ws : List ℕ) → follows at (w ∷ ws) ≡ true → (first_beat w ≡ at) × (1 ≤ beat_count w) × (follows (end_beat w) ws ≡ true)
unfolding follows
follow_parts at w ws f =
    let g = both_pass (eqb (first_beat w) at) (leb 1 (beat_count w) && follows (end_beat w) ws) f in
    let h = both_pass (leb 1 (beat_count w)) (follows (end_beat w) ws) g.1 in
    (eqb-true _ _ g.0, leb-true _ _ h.0, h.1)

pub end_is : (w : ℕ) → end_beat w ≡ first_beat w + beat_count w
unfolding end_beat
end_is w = omega arith

starts_later : (at : ℕ) (table : List ℕ) → follows at table ≡ true → (j : ℕ) → j < length table → at ≤ first_beat (get_or table j 0)
starts_later at [] f j l = absurd (omega arith)
starts_later at (w ∷ ws) f zero l = let p = follow_parts at w ws f in omega arith
starts_later at (w ∷ ws) f (suc j) l =
    let p = follow_parts at w ws f in
    let e = end_is w in
    let later = starts_later (end_beat w) ws p.2 j (omega arith) in
    omega arith

pub apart : (at : ℕ) (table : List ℕ) → follows at table ≡ true → (i j : ℕ) → i < j → j < length table
    → end_beat (get_or table i 0) ≤ first_beat (get_or table j 0)
apart at [] f i j l m = absurd (omega arith)
apart at (w ∷ ws) f i zero l m = absurd (omega arith)
apart at (w ∷ ws) f zero (suc j) l m = starts_later (end_beat w) ws (follow_parts at w ws f).2 j (omega arith)
apart at (w ∷ ws) f (suc i) (suc j) l m = apart (end_beat w) ws (follow_parts at w ws f).2 i j (omega arith) (omega arith)

-- Starts and ends are in order.
pub in_order : (at : ℕ) (table : List ℕ) → follows at table ≡ true → (i j : ℕ) → i ≤ j → j < length table
    → (first_beat (get_or table i 0) ≤ first_beat (get_or table j 0)) × (end_beat (get_or table i 0) ≤ end_beat (get_or table j 0))
in_order at table f i j l m =
    by_cases (ltb i j)
    (λ e.
    let a = apart at table f i j (ltb-true i j e) m in
    let x = end_is (get_or table i 0) in
    let y = end_is (get_or table j 0) in
    (omega arith, omega arith))
    (λ e.
    let g = ltb-false i j e in
    let z : i ≡ j = omega arith in
    rw z (omega arith, omega arith))

-- No two records hold one beat.
pub one_holds : (at : ℕ) (table : List ℕ) → follows at table ≡ true → (beat i j : ℕ) → i < j → j < length table
    → Holds beat (get_or table i 0) → Holds beat (get_or table j 0) → ⊥
unfolding Holds
one_holds at table f beat i j l m h g = let a = apart at table f i j l m in omega (arith, h.1, g.0)
