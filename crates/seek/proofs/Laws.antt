-- The search: what is still to be found in the range that is left, and what that says of the whole table.
use Prim.Native.Nat.{ℕ, suc, ◌+◌, ◌/◌, ◌<◌, ◌≤◌}
use mathlib.Core.Path.{◌≡◌, subst}
use mathlib.Core.List.{List}
use mathlib.Core.Option.{Option, none, some}
use native.Mathlib.Omega.{arith}
use lib.ListN.{length, get_or}
use Rattle.std.specs.Prelude.{Some, None}
use Rattle.songcode.specs.Description.Joined.{first_beat, end_beat}
use Rattle.songcode.specs.Answer.Finding.{half, jump_to}
use Rattle.songcode.specs.Jumps.{Holds, Halves, empty, held, before, past}
use Rattle.songcode.proofs.JumpsProved.{jumps_proved}
use Rattle.seek.specs.Answers.{found_as, found_of}

-- After so many probes the range from start to end is left: what the rule gives for it is what it gives for the table, these probes added.
abbrev pub Left : ℕ → List ℕ → ℕ → ℕ → ℕ → Type 0
Left beat table start end probes = (found : Option ℕ) (more : ℕ) → Halves beat table start end found more
    → Halves beat table 0 (length table) found (probes + more)

module _ (beat : ℕ) (table : List ℕ) where
  abbrev At : Option ℕ → ℕ → Type 0
  At found probes = Halves beat table 0 (length table) found probes

  module _ (start end probes : ℕ) (l : start < end) (left : Left beat table start end probes) where
    pub left_before : beat < first_beat (get_or table ((start + end) / 2) 0) → Left beat table start ((start + end) / 2) (probes + 1)
    unfolding half
    left_before b found more h = subst (λ n. At found n) (omega arith) (left found (suc more) (before l (omega arith) b h))

    pub left_past : end_beat (get_or table ((start + end) / 2) 0) ≤ beat → Left beat table ((start + end) / 2 + 1) end (probes + 1)
    unfolding half
    left_past b found more h =
        let e : suc ((start + end) / 2) ≡ (start + end) / 2 + 1 = omega arith in
        subst (λ n. At found n) (omega arith) (left found (suc more) (past l (omega arith) b (rw e h)))

  found_on : length table ≤ 65535 → (found : Option ℕ) (probes : ℕ) → At found probes → found_as found probes ≡ found_of (jump_to beat table)
  unfolding found_of
  found_on l found probes h = rw ((jumps_proved.halved beat table l found probes).1 h)

  module _ (l : length table ≤ 65535) (start end probes : ℕ) (left : Left beat table start end probes) where
    -- The record in the middle holds the beat.
    pub found_there : start < end → Holds beat (get_or table ((start + end) / 2) 0)
        → record { place = Some ((start + end) / 2); probes = probes + 1 } ≡ found_of (jump_to beat table)
    unfolding half found_as
    found_there m h = found_on l (some ((start + end) / 2)) (probes + 1) (left (some ((start + end) / 2)) 1 (held m (omega arith) h))

    -- The range is empty.
    pub found_nowhere : end ≤ start → record { place = None; probes = probes } ≡ found_of (jump_to beat table)
    unfolding found_as
    found_nowhere m = found_on l none probes (subst (λ n. At none n) (omega arith) (left none 0 (empty m)))

-- More than 65,535 records are not searched.
pub found_over : (beat : ℕ) (table : List ℕ) → 65535 < length table → record { place = None; probes = 0 } ≡ found_of (jump_to beat table)
unfolding found_of found_as
found_over beat table l = rw (jumps_proved.too_long beat table l)
