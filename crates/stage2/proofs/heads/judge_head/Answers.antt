-- The number that is read is the model's for the line; so are the complaint of it and the row behind it.
use Rattle.stage2.proofs.HeadReturns.{head_read}
use Rattle.stage2.proofs.heads.judge_head.Goals as goal

pub returns : goal.returns
returns c = let q = c.args in
    let same = head_read q.l.number q.s.now q.l.start q.l.stop c.head_in-head.result c.head_in-head.ensures in
    (rw (← same) c.head_note-note.ensures, rw (← same) c.put_head.ensures)
