-- The name ends where the model's does, and which key it names depends on its bytes alone.
use Rattle.stage2.proofs.NameReturns.{key_found}
use Rattle.stage2.proofs.names.key_at.Goals as goal

pub returns : goal.returns
returns c = let q = c.args in
    key_found q.l.number q.s.now q.l.start q.l.stop c.name_end-q.result c.key_named.result
    c.name_end-q.ensures.0 c.key_named.ensures
