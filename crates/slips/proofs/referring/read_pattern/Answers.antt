-- A pattern that names nothing is read as it is written; else the lines of the definition are, with nothing remembered yet.
use mathlib.Core.Path.{sym, ap, ◌∙◌}
use Rattle.slips.specs.declared.readings.Reading.{Reading}
use Rattle.slips.proofs.ReferLaws.{known_none}
use Rattle.slips.proofs.PutReadLaws.{reads_written, reads_named}
use Rattle.slips.proofs.referring.read_pattern.Goals as goal

pub returns-then-named-eq0 : goal.returns-then-named-eq0
returns-then-named-eq0 c =
    let a = c.args in
    reads_written a.s.now a.run a.x _ (sym c.named_number-named.ensures ∙ c.if-named-eq0.true) c.read_plain.ensures

pub read_lines-requires : goal.read_lines-requires
read_lines-requires c =
    let p = c.requires in
    let d = c.definition_lines.ensures in
    let b = c.begin.ensures in
    (d.0, d.1, p.2, known_none _ _ (ap (λ (v : Reading). v.misfit) b.0 ∙ p.3) b.1)

pub returns : goal.returns
returns c =
    let n = c.named_number-named in
    let a = c.args in
    reads_named a.s.now a.run a.x n.result n.ensures c.if-named-eq0.false c.definition_lines.result
    c.definition_lines.ensures.2 c.begin.result c.read_lines.result c.begin.ensures.0
    c.read_lines.ensures
