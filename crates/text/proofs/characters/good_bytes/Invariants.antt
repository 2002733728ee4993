-- What was passed, and the good bytes from there on, are the good bytes of the text.
use Prim.Native.Nat.{◌≤◌, ◌+◌, ◌-◌}
use mathlib.Core.Path.{◌≡◌}
use lib.ListN.{length, drop}
use Rattle.songcode.specs.Answer.Characters.{good_bytes}
use Rattle.text.proofs.characters.good_bytes.Given as goal

abbrev pub invariant-loop-width : goal.invariant-loop-width
invariant-loop-width l = (l.i ≤ length l.s) × (l.i + good_bytes 0 (drop l.i l.s) ≡ good_bytes 0 l.s)

abbrev pub decreases-loop-width : goal.decreases-loop-width
decreases-loop-width l = length l.s - l.i
