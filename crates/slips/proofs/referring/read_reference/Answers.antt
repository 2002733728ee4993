-- The entry that is given is remembered, and in the text of a number that is remembered nothing more is found: only measures are added; else its
-- lines are read.
use Rattle.slips.proofs.PutReadLaws.{means_again}
use Rattle.slips.proofs.referring.read_reference.Goals as goal

pub returns-in-Some : goal.returns-in-Some
returns-in-Some c =
    let a = c.args in
    let e = c.in-Some.ensures in
    means_again a.s.now a.number a.x _ c.requires.1 c.requires.2 (e.0, c.in-Some.m, e.1, e.2) _ c.with_measures.ensures c.with_reading.ensures
