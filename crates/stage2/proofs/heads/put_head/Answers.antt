-- With fewer than 26 before it the number is set at its place; from 26 on the row stays as it is.
use Rattle.stage2.proofs.HeadReturns.{heads_full, head_added}
use Rattle.stage2.proofs.heads.put_head.Goals as goal

pub returns-then-n-lt-DEFINITIONS : goal.returns-then-n-lt-DEFINITIONS
returns-then-n-lt-DEFINITIONS c = let q = c.args in head_added q.head q.n q.ids.now c.unwrap_or.result c.if-n-lt-DEFINITIONS.true
    c.unwrap_or.ensures

pub returns-else-n-lt-DEFINITIONS : goal.returns-else-n-lt-DEFINITIONS
returns-else-n-lt-DEFINITIONS c = let q = c.args in heads_full q.head q.n q.ids.now c.if-n-lt-DEFINITIONS.false
