-- The bytes up to the end of the name are looked up, and the modifier that they name does not depend on where they stand.
use Rattle.stage2.proofs.NameReturns.{modifier_found}
use Rattle.stage2.proofs.modifiers.modifier_at.Goals as goal

pub returns : goal.returns
returns c = let q = c.args in
    modifier_found q.l.number q.s.now q.l.start q.l.stop c.name_end-q.result c.modifier_named.result
    c.name_end-q.ensures.0 c.modifier_named.ensures
