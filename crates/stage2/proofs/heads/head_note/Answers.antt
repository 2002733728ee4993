-- A malformed head gives 6 and cannot be one said before; a number is asked whether it is one too many, and whether it was said.
use Rattle.stage2.proofs.HeadReturns.{head_malformed, head_formed}
use mathlib.Core.Path.{refl}
use Rattle.stage2.proofs.heads.head_note.Goals as goal

pub returns-in_default : goal.returns-in_default
returns-in_default c = let q = c.args in head_malformed q.head q.n q.ids.now q.line c.complain_if.result
    c.in_default.is c.complain_if.ensures

pub returns : goal.returns
returns c =
    let q = c.args in
    head_formed q.head q.n q.ids.now q.line _ _ _ c.min.result _ _ c.in-Some.is refl c.has_head.ensures
    c.complain_if-many.ensures c.complain_if-2.ensures c.min.ensures
