-- The words of the lines passed are laid, those of the lines from here on fit behind them.
use Prim.Native.Nat.{◌+◌, ◌-◌, ◌≤◌}
use lib.ListN.{length}
use Rattle.tokens.specs.Kept.{KeptFrom}
use Rattle.laying.proofs.LayingLaws.{Lays}
use Rattle.laying.proofs.laying.lay_run.Given as goal

abbrev pub invariant-loop : goal.invariant-loop
invariant-loop l =
    (l.line ≤ l.at + 2) × (l.at ≤ length l.s)
    × Lays l.s l.initial.words l.initial.fill l.initial.line l.initial.at (l.fn.run.lines - 1) l.words l.fill l.line l.at (l.end - l.counter)
    × KeptFrom l.s l.words l.fill
