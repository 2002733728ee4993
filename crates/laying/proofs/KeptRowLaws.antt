-- Words laid into a row: the marks behind them are right as before.
use Prim.Native.Nat.{ℕ, ◌+◌, ◌≤◌}
use mathlib.Core.Path.{◌≡◌}
use mathlib.Core.List.{List}
use native.Mathlib.Omega.{arith}
use lib.ListN.{length}
use lib.Seq.{sets, length-sets}
use Rattle.tokens.specs.Kept.{KeptFrom}
use Rattle.tokens.proofs.KeptLaws.{kept_later, kept_laid}

pub kept_behind : {s ws : List ℕ} {from to : ℕ} → from ≤ to → KeptFrom s ws from → KeptFrom s ws to
kept_behind h k = record { room = k.room; kept = kept_later h k.kept }

pub kept_on : {s ws : List ℕ} {from end : ℕ} (n : ℕ) (new : List ℕ) → end ≡ n + length new → from ≤ end → KeptFrom s ws from → KeptFrom s (sets ws n new) end
kept_on {s} {ws} {from} {end} n new e b k =
    let l = length-sets ws n new in
    let r = k.room in
    record { room = omega arith; kept = kept_laid s ws new from n end (length s + 1) e b k.kept }
