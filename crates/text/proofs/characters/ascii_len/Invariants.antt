-- The characters in the blocks passed, and those from here on, are those in front.
use Prim.Native.Nat.{◌≤◌, ◌+◌, ◌-◌}
use mathlib.Core.Path.{◌≡◌}
use lib.ListN.{length, drop}
use Rattle.text.specs.Leads.{ascii_length}
use Rattle.text.proofs.characters.ascii_len.Given as goal

abbrev pub invariant-loop-i : goal.invariant-loop-i
invariant-loop-i l = (l.i ≤ length l.t) × (l.i + ascii_length (drop l.i l.t) ≡ ascii_length l.t)

abbrev pub decreases-loop-i : goal.decreases-loop-i
decreases-loop-i l = length l.t - l.i
