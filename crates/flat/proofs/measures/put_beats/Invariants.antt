-- Beat by beat: the positions from i on, put on the sheet so far, give what the whole line gives; a gap and the letters make one position.
use mathlib.Core.Path.{◌≡◌}
use mathlib.Core.List.{map}
use lib.ListN.{length, drop}
use Rattle.songcode.specs.Answer.Flat.{spaced}
use Rattle.flat.specs.Sheets.{puts}
use Rattle.flat.specs.Measures.{letters_at, positions}
use Rattle.flat.proofs.measures.put_beats.Given as goal

abbrev pub invariant-loop-i : goal.invariant-loop-i
invariant-loop-i l =
    (length l.copy ≡ length l.initial.copy)
    × (puts (positions l.i (map (letters_at l.s) (drop l.i l.beats))) (record { copy = l.copy; at = l.out })
    ≡ puts (spaced (map (letters_at l.s) l.beats)) (record { copy = l.initial.copy; at = l.initial.out }))
