-- Every block passed is metadata.
use Rattle.laying.proofs.MetadataLaws.{Come}
use lib.ListN.{length}
use Prim.Native.Nat.{◌-◌}
use Rattle.laying.proofs.metadata.metadata_end.Given as goal

abbrev pub invariant-loop-place : goal.invariant-loop-place
invariant-loop-place l = Come l.s l.place

abbrev pub decreases-loop-place : goal.decreases-loop-place
decreases-loop-place l = length l.s - l.place.at
