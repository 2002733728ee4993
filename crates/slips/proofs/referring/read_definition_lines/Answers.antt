-- These are the lines of the definition; now that they are read nothing more would be found in them, so their number is remembered.
use Rattle.slips.proofs.PutReadLaws.{means_new}
use Rattle.slips.proofs.referring.read_definition_lines.Goals as goal

pub read_plain-y-requires : goal.read_plain-y-requires
read_plain-y-requires c =
    let d = c.definition_lines.ensures in (d.0, d.1, c.requires.0)

pub returns : goal.returns
returns c =
    let d = c.definition_lines.ensures in
    let a = c.args in
    means_new a.s.now a.number a.x _ c.requires.1 c.requires.2 c.requires.0 c.definition_lines.result d.2
    c.read_plain-y.result c.read_plain-y.ensures c.with_reading.result
    c.with_reading.ensures c.remember.ensures
