-- Any other token means only itself; a reference closes the measure, and what it means is read behind it.
use Rattle.slips.proofs.PutReadLaws.{token_alone, before_reference, token_means}
use Rattle.slips.proofs.referring.read_or_refer.Goals as goal

pub read_reference-requires : goal.read_reference-requires
read_reference-requires c =
    let a = c.args in
    let r = before_reference a.s.now a.x _ c.requires.1 _ c.with_reading-y.ensures c.requires.0 a.t
    c.kind-sign.ensures c.read_token.ensures c.if-sign-eq-REFERENCE.true c.requires.2 in
    (c.requires.0, r.0, r.1)

pub returns-then-sign-eq-REFERENCE : goal.returns-then-sign-eq-REFERENCE
returns-then-sign-eq-REFERENCE c =
    let a = c.args in
    token_means a.s.now a.x _ c.requires.1 _ c.with_reading-y.ensures c.requires.0 a.t
    c.kind-sign.ensures c.read_token.ensures c.if-sign-eq-REFERENCE.true _ c.number.ensures.0 _ c.read_reference.ensures

pub returns : goal.returns
returns c =
    let a = c.args in
    token_alone a.s.now a.x _ c.requires.1 _ c.with_reading-y.ensures c.requires.0 a.t c.kind-sign.ensures
    c.read_token.ensures c.if-sign-eq-REFERENCE.false
