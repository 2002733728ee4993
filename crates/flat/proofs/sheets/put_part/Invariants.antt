-- Byte by byte: the bytes from here on, put on the sheet so far, give what the whole part gives on the first sheet.
use mathlib.Core.Path.{◌≡◌}
use lib.ListN.{length, drop}
use Rattle.flat.specs.Sheets.{puts}
use Rattle.flat.proofs.sheets.put_part.Given as goal

abbrev pub invariant-loop-b : goal.invariant-loop-b
invariant-loop-b l =
    (length l.copy ≡ length l.initial.copy)
    × (puts (drop l.b-index l.b-items) (record { copy = l.copy; at = l.out })
    ≡ puts l.b-items (record { copy = l.initial.copy; at = l.initial.out }))
