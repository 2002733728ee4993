-- Letter by letter: what is left of the name up to its first 0 is still to be put; behind three letters nothing is left, for no base has more.
use Prim.Native.Nat.{◌+◌, ◌≤◌}
use mathlib.Core.Path.{◌≡◌}
use lib.ListN.{length, drop}
use Rattle.songcode.specs.Answer.Chords.{spelling_of}
use Rattle.tokens.specs.Bases.{unpadded}
use Rattle.flat.specs.Sheets.{puts}
use Rattle.flat.proofs.measures.put_base.Given as goal

abbrev pub invariant-loop-letter : goal.invariant-loop-letter
invariant-loop-letter l =
    (length l.copy ≡ length l.initial.copy) × (length (unpadded (drop l.letter-index l.letter-items)) + l.letter-index ≤ 3)
    × (puts (unpadded (drop l.letter-index l.letter-items)) (record { copy = l.copy; at = l.out })
    ≡ puts (spelling_of l.number) (record { copy = l.initial.copy; at = l.initial.out }))
