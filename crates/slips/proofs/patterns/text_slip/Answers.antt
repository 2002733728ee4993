-- All lines are read, then the end: what is then ruled of a text that is not right has the clause and the place of the slip.
use Rattle.sections.specs.Runs.{lines_of}
use Rattle.slips.proofs.TextReadLaws.{text_told}
use Rattle.slips.proofs.patterns.text_slip.Goals as goal

pub returns : goal.returns
returns c =
    let q = c.args in
    let a = c.read_lines in
    let e = c.stop_in in
    λ m ms o. text_told q.s.now q.whose (lines_of q.s.now q.run) a.result e.result (a.ensures m ms o) e.ensures c.slip_in.result c.slip_in.ensures
