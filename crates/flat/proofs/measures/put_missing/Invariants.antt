-- Remover by remover: those from position i up to N, put on the sheet so far, give what all of them give on the first sheet.
use Prim.Native.Nat.{◌-◌}
use mathlib.Core.Path.{◌≡◌}
use lib.ListN.{length, replicate}
use Rattle.songcode.specs.Bytes.{ascii}
use Rattle.flat.specs.Sheets.{puts}
use Rattle.flat.specs.Measures.{positions}
use Rattle.flat.proofs.measures.put_missing.Given as goal

abbrev pub invariant-loop-i : goal.invariant-loop-i
invariant-loop-i l =
    (length l.copy ≡ length l.initial.copy)
    × (puts (positions l.i (replicate (l.n - l.i) (ascii "="))) (record { copy = l.copy; at = l.out })
    ≡ puts (positions l.from (replicate (l.n - l.from) (ascii "="))) (record { copy = l.initial.copy; at = l.initial.out }))
