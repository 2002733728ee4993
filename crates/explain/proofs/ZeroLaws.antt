-- What a row that is cleared keeps.
use Prim.Native.Nat.{ℕ, ◌+◌, ◌≤◌}
use mathlib.Core.Path.{◌≡◌, ap, ◌∙◌}
use mathlib.Core.List.{List}
use native.Mathlib.Omega.{arith}
use lib.ListN.{length, replicate, length-replicate}
use Rattle.tokens.specs.Kept.{KeptFrom}
use Rattle.tokens.proofs.KeptLaws.{unmarked_kept, unmarked_zeros}

-- A row of zeros has no mark.
pub zeros_kept : {s ws : List ℕ} (n : ℕ) → ws ≡ replicate n 0 → length s + 16 ≤ n → KeptFrom s ws 0
zeros_kept {s} {ws} n e h =
    let l : length ws ≡ n = ap length e ∙ length-replicate n 0 in
    record { room = omega arith; kept = rw e (unmarked_kept s (replicate n 0) 0 (length s + 1) (unmarked_zeros n)) }
