-- Behind a head the line is judged as one; at every other place there is no complaint, and the numbers stay.
use mathlib.Core.Path.{refl}
use Rattle.songcode.specs.Lists.{provided◌then◌else◌}
use Rattle.stage2.specs.Heads.{head_noted, heads_after}
use Rattle.stage2.proofs.heads.note_head.Goals as goal

pub returns-then-is_head : goal.returns-then-is_head
unfolding head_noted heads_after provided◌then◌else◌
returns-then-is_head c = rw (← c.is_head.ensures, c.if-is_head.true) c.judge_head.ensures

pub returns : goal.returns
unfolding head_noted heads_after provided◌then◌else◌
returns c = rw (← c.is_head.ensures, c.if-is_head.false) (refl, refl)
