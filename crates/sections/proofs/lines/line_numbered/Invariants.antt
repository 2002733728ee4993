-- Every line before has another number, so the line of the number is still to come or the one at hand.
use Prim.Native.Nat.{suc, ◌+◌, ◌-◌, ◌≤◌}
use mathlib.Core.Path.{◌≡◌}
use mathlib.Core.List.{Memᴰ}
use lib.ListN.{length}
use Rattle.text.specs.declared.lines.Line.{Line}
use Rattle.text.specs.Spans.{spans}
use Rattle.sections.proofs.LineLaws.{From}
use Rattle.sections.proofs.lines.line_numbered.Given as goal

abbrev pub invariant-loop-at : goal.invariant-loop-at
invariant-loop-at z =
    (1 ≤ z.number) × (z.number ≤ z.at + 1) × (z.at ≤ length z.s)
    × ((l : Line) → Memᴰ l (spans z.s) → l.number ≡ z.wanted → Memᴰ l (From z.s z.number z.at))
    × ((l : Line) → Memᴰ l (From z.s z.number z.at) → Memᴰ l (spans z.s))
    × (z.number + length (From z.s z.number z.at) ≡ suc (length (spans z.s)))

abbrev pub decreases-loop-at : goal.decreases-loop-at
decreases-loop-at l = length l.s - l.at
