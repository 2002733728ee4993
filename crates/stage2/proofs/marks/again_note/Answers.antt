-- Below 8 the mark at that place decides; from 8 on there is nothing to complain of.
use Rattle.stage2.proofs.MarkReturns.{again_said, again_nothing}
use Rattle.refusals.specs.Names.{number_of}
use Rattle.stage2.proofs.marks.again_note.Goals as goal

pub returns-then-k-lt8 : goal.returns-then-k-lt8
returns-then-k-lt8 c = let q = c.args in again_said (number_of q.why) q.k q.marks q.line c.complain_if.result c.if-k-lt8.true
    c.complain_if.ensures

pub returns-else-k-lt8 : goal.returns-else-k-lt8
returns-else-k-lt8 c = let q = c.args in again_nothing (number_of q.why) q.k q.marks q.line c.if-k-lt8.false
