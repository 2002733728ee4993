-- Each turn stores one word with the step added, behind all words still to be read, so copying those that are left ends as the whole copy.
use Rattle.player.proofs.CopyLaws.{copying}
use Rattle.player.specs.Again.{copy_of, later}
use Rattle.std.proofs.Common.{◌≡◌, ◌+◌, ◌-◌, ◌≤◌, min, length}
use Rattle.player.proofs.again.copy_later.Given as goal

abbrev pub invariant-loop-i : goal.invariant-loop-i
invariant-loop-i l =
    (l.i ≤ l.n) × (length l.t ≡ length l.initial.t) × (l.n ≡ min (l.to - l.from) (length l.initial.t - l.to))
    × (copying (later l.step) l.t (l.from + l.i) (l.to + l.i) (l.to - l.from - l.i) ≡ copy_of (later l.step) l.initial.t l.from l.to)
