-- Laws of lists that the other laws use.
use Prim.Native.Nat.{ℕ, ◌-◌, min}
use mathlib.Core.Path.{◌≡◌, ◌∙◌}
use mathlib.Core.List.{List}
use native.Mathlib.Omega.{arith}
use lib.ListN.{length, take, drop, length-drop}
use lib.Seq.{take_all}
use Rattle.std.proofs.lemmas.List.{drop_min}

-- What is lent from a place to the end.
pub rest_part : (s : List ℕ) (k : ℕ) → take (length s - k) (drop k s) ≡ drop k s
rest_part s k = let e = length-drop k s in take_all (length s - k) (drop k s) (omega arith)

-- The same from a place that may lie past the end.
pub rest_min : (s : List ℕ) (at : ℕ) {k : ℕ} → k ≡ min at (length s) → take (length s - k) (drop k s) ≡ drop at s
rest_min s at {k} e = rest_part s k ∙ rw e (drop_min at s)
