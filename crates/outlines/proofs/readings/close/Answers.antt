-- Where a measure is at hand, its size is joined to the sizes and it is counted.
use Rattle.outlines.specs.Readings.{closed, measured}
use borrow.Author.Tests.{ne_eqb}
use Rattle.outlines.proofs.readings.close.Goals as goal

pub returns : goal.returns
unfolding closed measured
returns c =
    let e = ne_eqb c.args.s.positions 0 c.if-s-eq0.false in
    rw (e, c.capped_sum.ensures, c.join.ensures)
