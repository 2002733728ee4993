-- Line by line: the tally so far with the words that are left is that of all.
use Prim.Native.Nat.{◌-◌, ◌*◌, ◌<◌, ◌≤◌}
use mathlib.Core.Path.{◌≡◌}
use lib.ListN.{length, take, drop}
use Rattle.judging.specs.Lyrics.{tally_words}
use Rattle.judging.proofs.lyrics.tally_lyrics.Given as goal

abbrev pub invariant-loop-at : goal.invariant-loop-at
invariant-loop-at l =
    (l.initial.at ≤ l.at) × (l.at ≤ l.end) × (l.end ≤ 1000000) × (l.initial.at < l.end → l.end ≤ length l.words) × (l.t.lines ≤ l.at) × (l.t.sum ≤ 16383 * l.at)
    × (tally_words l.t (drop l.at (take l.end l.words)) ≡ tally_words l.initial.t (drop l.initial.at (take l.end l.words)))

abbrev pub decreases-loop-at : goal.decreases-loop-at
decreases-loop-at l = l.end - l.at
