-- Line by line, as long as they are key lines.
use Prim.Native.Nat.{◌+◌, ◌-◌, ◌≤◌}
use mathlib.Core.Path.{◌≡◌}
use lib.ListN.{length}
use Rattle.songcode.specs.Lists.{taken, left}
use Rattle.songcode.specs.Answer.Sections.{is_key_line}
use Rattle.sections.specs.Runs.{text_lines}
use Rattle.flat.specs.Sheets.{puts}
use Rattle.flat.specs.Taken.{line_bytes}
use Rattle.flat.proofs.lines.put_keys.Given as goal

abbrev pub invariant-loop-next : goal.invariant-loop-next
invariant-loop-next l =
    (1 ≤ l.k) × (l.k ≤ l.next + 1) × (l.next ≤ length l.s) × (length l.copy ≡ length l.initial.copy)
    × (puts (line_bytes (taken is_key_line (text_lines l.s l.k l.next))) (record { copy = l.copy; at = l.out })
    ≡ puts (line_bytes (taken is_key_line (text_lines l.s l.initial.k l.initial.next))) (record { copy = l.initial.copy; at = l.initial.out }))
    × (l.initial.next ≤ l.next) × (left is_key_line (text_lines l.s l.k l.next) ≡ left is_key_line (text_lines l.s l.initial.k l.initial.next))

abbrev pub decreases-loop-next : goal.decreases-loop-next
decreases-loop-next l = length l.s - l.next
