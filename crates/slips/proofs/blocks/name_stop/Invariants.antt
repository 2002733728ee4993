-- Byte by byte: none that was passed is a `!`.
use Rattle.slips.specs.Finds.{Without}
use Rattle.slips.proofs.blocks.name_stop.Given as goal

abbrev pub invariant-loop-i : goal.invariant-loop-i
invariant-loop-i l = Without 33 l.s l.from l.i
