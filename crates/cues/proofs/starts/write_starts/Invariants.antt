-- Section by section: the starts written so far and those of the sections that are left are the starts of all measures.
use Prim.Native.Nat.{◌+◌, ◌*◌, ◌^◌, ◌≤◌}
use mathlib.Core.Path.{◌≡◌}
use mathlib.Core.Bool.{true}
use lib.ListN.{length, drop}
use Rattle.songcode.specs.Lists.{sum, every}
use Rattle.songcode.specs.Description.Joined.{covers}
use Rattle.songcode.proofs.MemoryLaws.{Wrote}
use Rattle.cues.specs.Cues.{lengths, starts, is_timed}
use Rattle.cues.specs.Table.{IsTable}
use Rattle.cues.proofs.starts.write_starts.Given as goal

abbrev pub invariant-loop-word : goal.invariant-loop-word
invariant-loop-word l =
    (length l.cues ≡ length l.initial.cues)
    × (l.first ≤ length l.measures)
    × (l.time ≤ l.first * 3780000000)
    × (covers l.first (length l.measures) (drop l.word-index l.sections) ≡ true)
    × (every is_timed (drop l.word-index l.sections) ≡ true)
    × IsTable l.table
    × (length l.measures ≤ 2 ^ 21)
    × (length l.measures ≤ length l.initial.cues)
    × (l.time + sum (lengths (drop l.word-index l.sections) (drop l.first l.measures)) ≡ sum (lengths l.sections l.measures))
    × Wrote l.initial.cues l.first l.cues (starts l.time (lengths (drop l.word-index l.sections) (drop l.first l.measures)))
    (starts 0 (lengths l.sections l.measures))
