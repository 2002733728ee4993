-- At every line: the first setting of that slot in the lines that are left is the first of the run.
use Rattle.sections.specs.Slots.{setting_among}
use Rattle.sections.specs.Runs.{text_lines, lines_of}
use lib.ListN.{length, take}
use mathlib.Core.Path.{◌≡◌}
use Prim.Native.Nat.{◌+◌, ◌-◌, ◌≤◌}
use Rattle.sections.proofs.slots.find.Given as goal

abbrev pub invariant-loop : goal.invariant-loop
invariant-loop l = (1 ≤ l.n) × (l.n ≤ l.at + 1) × (l.at ≤ length l.s)
    × (setting_among l.slot (take (l.end - l.counter) (text_lines l.s l.n l.at)) ≡ setting_among l.slot (lines_of l.fn.s l.fn.run))
