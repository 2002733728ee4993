-- The beats, the removers from the position behind them on, and the line feed, put one behind the other, are the line.
use Rattle.flat.proofs.MeasureLaws.{line_put}
use Rattle.flat.proofs.measures.put_measure.Goals as goal

pub returns : goal.returns
returns c =
    let a = c.args in
    line_put a.s.now a.n a.beats.now _ _ _ _ c.put_beats-heard.ensures c.put_missing-filled.ensures c.put.ensures
