-- Safe, and the loop ends: the next block begins further on in the text, and its number is at most its place and one.
use Prim.Native.Nat.{◌+◌, ◌-◌, ◌≤◌}
use lib.ListN.{length}
use Rattle.slips.proofs.counts.counted_in_song.Given as goal

abbrev pub invariant-loop-p : goal.invariant-loop-p
invariant-loop-p l = (1 ≤ l.p.number) × (l.p.number ≤ l.p.at + 1) × (l.p.at ≤ length l.s)

abbrev pub decreases-loop-p : goal.decreases-loop-p
decreases-loop-p l = length l.s - l.p.at
