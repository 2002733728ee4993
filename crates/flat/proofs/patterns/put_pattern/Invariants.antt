-- The parts of a section one behind the other; the loop stands at a measure of the row, and falls by the beats that are left.
use Prim.Native.Nat.{◌-◌}
use mathlib.Core.Path.{◌≡◌}
use lib.ListN.{length}
use Rattle.songcode.specs.Description.Performance.{total}
use Rattle.player.specs.Arrangements.{arranged_row, PlaysWithin}
use Rattle.flat.specs.Sheets.{puts}
use Rattle.flat.specs.Measures.{pattern_lines, Lent}
use Rattle.flat.proofs.PatternLaws.{Stands}
use Rattle.flat.proofs.patterns.put_pattern.Given as goal

abbrev pub invariant-loop-x : goal.invariant-loop-x
invariant-loop-x l =
    (length l.measures ≡ length l.initial.measures) × (length l.beats ≡ length l.initial.beats) × (length l.copy ≡ length l.initial.copy)
    × PlaysWithin l.words l.x 0 × Lent l.initial.measures l.initial.beats
    × Stands l.s l.n (arranged_row l.words l.x) l.from (record { copy = l.copy; at = l.out })
    (puts (pattern_lines l.s l.n (arranged_row l.words l.x)) (record { copy = l.initial.copy; at = l.initial.out }))

abbrev pub decreases-loop-x : goal.decreases-loop-x
decreases-loop-x l =
    total (arranged_row l.words l.x) - l.from
