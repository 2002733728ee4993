-- The line ends seen, and those from here on, are those of the text.
use Prim.Native.Nat.{◌≤◌, ◌+◌}
use mathlib.Core.Path.{◌≡◌}
use lib.ListN.{drop}
use Rattle.text.specs.Ends.{line_ends}
use Rattle.text.proofs.ends.line_ends.Given as goal

abbrev pub invariant-loop-i : goal.invariant-loop-i
invariant-loop-i l = (l.n ≤ l.i) × (l.n + line_ends (drop l.i l.t) ≡ line_ends l.t)
