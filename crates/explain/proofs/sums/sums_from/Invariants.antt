-- Every section passed stands in the row and has another header.
use Prim.Native.Nat.{◌-◌}
use mathlib.Core.Path.{◌≡◌}
use lib.ListN.{length}
use Rattle.sections.specs.Onward.{Onward}
use Rattle.judging.proofs.RowIsLaws.{RowIs}
use Rattle.explain.proofs.SumLaws.{Unrefused}
use Rattle.explain.proofs.SumLaws.{Ahead}
use Rattle.explain.proofs.sums.sums_from.Given as goal

abbrev pub invariant-loop-place : goal.invariant-loop-place
invariant-loop-place l =
    Onward l.s l.place × RowIs l.s l.words l.mark l.at l.place × (length l.words ≡ length l.initial.words) × Unrefused l.s l.place × Ahead l.s l.line l.place

abbrev pub decreases-loop-place : goal.decreases-loop-place
decreases-loop-place l = length l.s - l.place.at
