-- Measure by measure: the starts written so far and those of the measures that are left are the starts of the section.
use Prim.Native.Nat.{◌+◌, ◌*◌, ◌≤◌}
use mathlib.Core.Path.{◌≡◌}
use lib.ListN.{length, drop}
use Rattle.songcode.specs.Lists.{sum}
use Rattle.songcode.proofs.MemoryLaws.{Wrote}
use Rattle.cues.specs.Cues.{lengths_at, starts}
use Rattle.cues.proofs.starts.write_stretch.Given as goal

abbrev pub invariant-loop-i : goal.invariant-loop-i
invariant-loop-i l =
    (length l.cues ≡ length l.initial.cues)
    × (l.at ≤ l.time + l.i * 3780000000)
    × (l.at + sum (lengths_at l.bpm (drop l.i l.measures)) ≡ l.time + sum (lengths_at l.bpm l.measures))
    × Wrote l.initial.cues l.i l.cues (starts l.at (lengths_at l.bpm (drop l.i l.measures))) (starts l.time (lengths_at l.bpm l.measures))
