-- Line by line: the tokens read so far and those that are left are those of the run.
use Prim.Native.Nat.{◌+◌, ◌-◌, ◌≤◌}
use lib.ListN.{length, take}
use Rattle.sections.proofs.LineLaws.{From}
use Rattle.slips.specs.Referring.{PutRead}
use Rattle.slips.proofs.MarkLaws.{Within}
use Rattle.slips.proofs.referring.read_lines.Given as goal

abbrev pub invariant-loop-i : goal.invariant-loop-i
invariant-loop-i l =
    (l.fn.run.number + l.i ≤ l.at + 1) × (l.at ≤ length l.s)
    × Within (λ ms. PutRead l.s ms l.fn.x l.reading) l.s (take l.fn.run.lines (From l.s l.fn.run.number l.fn.run.at)) (l.fn.run.number + l.i) l.at
    (l.fn.run.lines - l.i)
