-- Line by line: the last count so far with the words that are left is that of all.
use Prim.Native.Nat.{◌-◌, ◌<◌, ◌≤◌}
use mathlib.Core.Path.{◌≡◌}
use lib.ListN.{length, take, drop}
use Rattle.judging.specs.Counts.{later_words}
use Rattle.judging.proofs.counts.later_in.Given as goal

abbrev pub invariant-loop-at : goal.invariant-loop-at
invariant-loop-at l =
    (l.initial.at ≤ l.at) × (l.at ≤ l.end) × (l.end ≤ 1000000) × (l.initial.at < l.end → l.end ≤ length l.words)
    × (later_words l.last (drop l.at (take l.end l.words)) ≡ later_words l.initial.last (drop l.initial.at (take l.end l.words)))

abbrev pub decreases-loop-at : goal.decreases-loop-at
decreases-loop-at l = l.end - l.at
