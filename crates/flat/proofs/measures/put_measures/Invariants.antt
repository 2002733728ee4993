-- Measure by measure: the lines of the measures from here on, put on the sheet so far, give what those of all give.
use mathlib.Core.Path.{◌≡◌}
use mathlib.Core.List.{map}
use lib.ListN.{length, drop}
use Rattle.flat.specs.Sheets.{puts}
use Rattle.flat.specs.Measures.{beats_in, measure_lines}
use Rattle.flat.proofs.measures.put_measures.Given as goal

abbrev pub invariant-loop-word : goal.invariant-loop-word
invariant-loop-word l =
    (length l.copy ≡ length l.initial.copy)
    × (puts (measure_lines l.s l.n (map (beats_in l.beats) (drop l.word-index l.word-items))) (record { copy = l.copy; at = l.out })
    ≡ puts (measure_lines l.s l.n (map (beats_in l.beats) l.word-items)) (record { copy = l.initial.copy; at = l.initial.out }))
