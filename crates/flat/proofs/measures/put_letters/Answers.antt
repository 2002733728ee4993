-- The word's fields tell: a base past 33 is silence, else the base's letters are put, then the stretch of the text, cut at its end.
use Rattle.flat.proofs.MeasureLaws.{letters_none, letters_are}
use Rattle.flat.proofs.measures.put_letters.Goals as goal

pub returns-then-beat-gt33 : goal.returns-then-beat-gt33
returns-then-beat-gt33 c =
    let b = c.beat_of-beat in
    let a = c.args in
    rw (letters_none a.s.now a.word b.result b.ensures c.if-beat-gt33.true) c.put.ensures

pub returns : goal.returns
returns c =
    let b = c.beat_of-beat in
    let a = c.args in
    letters_are a.s.now a.word b.result c.min-start.result c.min-stop.result _ _ _ b.ensures c.if-beat-gt33.false
    c.min-start.ensures c.min-stop.ensures c.put_base-named.ensures c.put_part.ensures
