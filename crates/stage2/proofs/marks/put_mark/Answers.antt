-- A number below 8 has its mark set; from 8 on the marks stay as they are.
use Rattle.stage2.proofs.MarkReturns.{mark_put, mark_not}
use Rattle.stage2.proofs.marks.put_mark.Goals as goal

pub returns-then-k-lt8 : goal.returns-then-k-lt8
returns-then-k-lt8 c = mark_put c.args.k c.args.marks c.if-k-lt8.true

pub returns-else-k-lt8 : goal.returns-else-k-lt8
returns-else-k-lt8 c = mark_not c.args.k c.args.marks c.if-k-lt8.false
