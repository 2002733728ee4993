-- No line end is passed over.
use mathlib.Core.Path.{◌≡◌}
use Prim.Native.Nat.{◌≤◌}
use Rattle.songcode.specs.Answer.Answer.{line_of_place}
use Rattle.slips.proofs.places.end_on_line.Given as goal

abbrev pub invariant-loop-i : goal.invariant-loop-i
invariant-loop-i l = (line_of_place l.i l.s ≡ line_of_place l.from l.s) × (l.from ≤ l.to → l.i ≤ l.to)
