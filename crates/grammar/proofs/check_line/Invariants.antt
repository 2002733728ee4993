-- Token by token: the check so far with the text that is left ends as the check of the whole line does.
use Prim.Native.Nat.{◌≤◌, ◌-◌}
use mathlib.Core.Path.{◌≡◌}
use Rattle.songcode.specs.Bytes.{placed}
use Rattle.text.specs.Spans.{part}
use Rattle.grammar.specs.Checks.{check_text}
use Rattle.grammar.proofs.check_line.Given as goal

abbrev pub invariant-loop-token : goal.invariant-loop-token
invariant-loop-token l = (l.at ≤ l.to)
    × (check_text l.check (placed l.at (part l.at l.to l.s)) ≡ check_text l.initial.check (placed l.from (part l.from l.to l.s)))

abbrev pub decreases-loop-token : goal.decreases-loop-token
decreases-loop-token l = l.to - l.at
