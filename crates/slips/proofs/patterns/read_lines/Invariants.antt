-- The lines of a text: each goes on from the one before, behind a line end.
use Prim.Native.Nat.{◌-◌}
use mathlib.Core.Path.{◌≡◌}
use mathlib.Core.List.{List, ◌∷◌}
use Rattle.songcode.specs.Answer.Lines.{Line}
use Rattle.sections.specs.Runs.{lines_of}
use Rattle.slips.proofs.TextReadLaws.{InText}
use Rattle.slips.proofs.patterns.read_lines.Given as goal

abbrev pub invariant-loop-line : goal.invariant-loop-line
invariant-loop-line l =
    (m : Line) (ms : List Line) → lines_of l.s l.fn.run ≡ m ∷ ms
    → InText l.s l.whose (lines_of l.s l.fn.run) l.reading l.at (l.fn.run.lines - l._line)
