-- Line by line: the lines that are left, put on the sheet so far, give what the whole run gives on the first sheet.
use Prim.Native.Nat.{◌+◌, ◌-◌, ◌≤◌}
use mathlib.Core.Path.{◌≡◌}
use lib.ListN.{length, take}
use Rattle.sections.specs.Runs.{text_lines, lines_of}
use Rattle.flat.specs.Sheets.{puts}
use Rattle.flat.specs.Taken.{line_bytes}
use Rattle.flat.proofs.lines.put_lines.Given as goal

abbrev pub invariant-loop : goal.invariant-loop
invariant-loop l =
    (1 ≤ l.number) × (l.number ≤ l.from + 1) × (l.from ≤ length l.s) × (length l.copy ≡ length l.initial.copy)
    × (puts (line_bytes (take (l.end - l.counter) (text_lines l.s l.number l.from))) (record { copy = l.copy; at = l.out })
    ≡ puts (line_bytes (lines_of l.fn.s l.fn.run)) (record { copy = l.initial.copy; at = l.initial.out }))
