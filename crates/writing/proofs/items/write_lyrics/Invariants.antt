-- The items of the lines passed are written, each at its measure.
use Prim.Native.Nat.{◌+◌, ◌-◌, ◌<◌, ◌≤◌}
use mathlib.Core.Path.{◌≡◌}
use lib.ListN.{length, take, drop}
use Rattle.songcode.proofs.MemoryLaws.{Wrote}
use Rattle.writing.specs.Prompts.{counts_in, prompt_words}
use Rattle.writing.proofs.items.write_lyrics.Given as goal

abbrev pub invariant-loop-at : goal.invariant-loop-at
invariant-loop-at l =
    (l.initial.at ≤ l.at)
    × (l.at ≤ l.end)
    × (l.end ≤ 1000000)
    × (l.initial.at < l.end → l.end ≤ length l.words)
    × (length l.items ≡ length l.initial.items)
    × (l.measure + counts_in (drop l.at (take l.end l.words)) ≤ 65535)
    × Wrote l.initial.items l.i l.items (prompt_words l.measure (drop l.at (take l.end l.words)))
    (prompt_words l.initial.measure (drop l.initial.at (take l.end l.words)))

abbrev pub decreases-loop-at : goal.decreases-loop-at
decreases-loop-at l = l.end - l.at
