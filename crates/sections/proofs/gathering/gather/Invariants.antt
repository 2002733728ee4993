-- At every line: each setting found so far, or else the first of its number in the lines that are left, is the first of the run.
use Rattle.sections.specs.Gathering.{SoughtBy}
use Rattle.sections.specs.Runs.{text_lines, lines_of}
use lib.ListN.{length, take}
use Prim.Native.Nat.{◌+◌, ◌-◌, ◌≤◌}
use Rattle.sections.proofs.gathering.gather.Given as goal

abbrev pub invariant-loop : goal.invariant-loop
invariant-loop l = (1 ≤ l.n) × (l.n ≤ l.at + 1) × (l.at ≤ length l.s)
    × SoughtBy l.s (take (l.end - l.counter) (text_lines l.s l.n l.at)) (lines_of l.fn.s l.fn.run) l.first
