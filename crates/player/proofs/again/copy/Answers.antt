-- The library copies as many words as both the stretch and the table have; past its end nothing is stored.
use Rattle.player.proofs.CopyLaws.{copied_within, copied_none}
use Rattle.player.proofs.again.copy.Goals as goal

pub returns-then-to-t : goal.returns-then-to-t
returns-then-to-t c = let a = c.args in copied_within a.t.now _ a.from a.to _ c.requires c.if-to-t.true c.min-n.ensures c.copy_within.ensures.after

pub returns-else-to-t : goal.returns-else-to-t
returns-else-to-t c = let a = c.args in copied_none a.t.now a.from a.to c.if-to-t.false
