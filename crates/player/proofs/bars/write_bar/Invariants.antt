-- Position by position: what is left to be written ends as the whole measure does.
use Rattle.player.specs.Bars.{beats_of}
use Rattle.player.specs.Signs.{parts_of, sounding_of}
use Rattle.std.proofs.Common.{◌≡◌, ◌+◌, ◌*◌, ◌≤◌, length, drop}
use lib.Seq.{sets}
use Rattle.player.proofs.bars.write_bar.Given as goal

abbrev pub invariant-loop-w : goal.invariant-loop-w
invariant-loop-w z =
    (length z.bs ≡ length z.initial.bs)
    × (z.next + z.bar.share * sounding_of (drop z.w-index z.bar.positions.now) ≤ length z.initial.bs)
    × (sets z.bs z.next (parts_of z.bar.share z.last.word (drop z.w-index z.bar.positions.now)) ≡ sets z.initial.bs z.b (beats_of z.bar))
