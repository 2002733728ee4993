-- The kind depends on the bytes alone, so it is that of the line wherever the line stands.
use Rattle.stage2.proofs.LineReturns.{kind_found}
use Rattle.stage2.proofs.lines.line_kind.Goals as goal

pub returns : goal.returns
returns c = let q = c.args in kind_found q.l.number q.s.now q.l.start q.l.stop c.kind_of.result
    c.kind_of.ensures
