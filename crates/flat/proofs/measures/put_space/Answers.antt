-- Before position 0 the gap is empty and nothing is put; before every other it is the space that is put.
use Rattle.flat.proofs.MeasureLaws.{gap_none, gap_some}
use Rattle.flat.proofs.measures.put_space.Goals as goal

pub returns-then-i-eq0 : goal.returns-then-i-eq0
returns-then-i-eq0 c = gap_none c.args.i _ c.if-i-eq0.true

pub returns : goal.returns
returns c =
    rw (gap_some c.args.i c.if-i-eq0.false) c.put.ensures
