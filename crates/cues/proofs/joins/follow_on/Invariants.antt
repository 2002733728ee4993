-- Measure by measure: the measures passed follow on, so all do if those that are left follow on from the beat reached.
use Prim.Native.Nat.{◌^◌, ◌≤◌}
use mathlib.Core.Path.{◌≡◌}
use lib.ListN.{drop}
use Rattle.songcode.specs.Description.Joined.{measures_join}
use Rattle.cues.proofs.joins.follow_on.Given as goal

abbrev pub invariant-loop-word : goal.invariant-loop-word
invariant-loop-word l = (l.beat ≤ 2 ^ 22) × (measures_join l.beat (drop l.word-index l.measures) ≡ measures_join 0 l.measures)
