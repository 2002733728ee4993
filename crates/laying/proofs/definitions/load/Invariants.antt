-- The definitions loaded so far stand in the buffer as they are written, and none of them has a fault.
use Rattle.laying.specs.Loading.{Loading}
use lib.ListN.{length}
use Prim.Native.Nat.{◌-◌}
use mathlib.Core.Path.{◌≡◌}
use Rattle.laying.proofs.definitions.load.Given as goal

abbrev pub invariant-loop-place : goal.invariant-loop-place
invariant-loop-place l = Loading l.s l.words l.mark l.place × (length l.words ≡ length l.initial.words)

abbrev pub decreases-loop-place : goal.decreases-loop-place
decreases-loop-place l = length l.s - l.place.at
