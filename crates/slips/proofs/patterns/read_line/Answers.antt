-- Token by token: up to the place reached no token is cut, and the reading has come so far.
use Rattle.std.proofs.lemmas.Result.{err_from_is_err_and}
use Rattle.slips.proofs.LineReadLaws.{line_begun, line_more, line_stops, line_done}
use Rattle.slips.proofs.patterns.read_line.Goals as goal

pub loop-t-init : goal.loop-t-init
loop-t-init c = line_begun c.args.s.now c.args.whose c.args.from c.args.to c.requires.0 c.args.r

pub loop-t-preserved : goal.loop-t-preserved
loop-t-preserved c =
    let t = c.in-Some in
    line_more c.loop-t.invariant c.requires.1 t.t t.ensures.takes t.ensures.inside.2 c.in_ok-reading.reading c.in_ok-reading.ensures

pub returns : goal.returns
returns c = line_done c.loop-t.invariant c.in_default.ensures.takes

pub returns-in_err-reading : goal.returns-in_err-reading
returns-in_err-reading c =
    let t = c.in-Some in
    let p = err_from_is_err_and c.from_residual.result c.from_residual.ensures.1 in
    λ passed rest n g l.
    rw (p.1, p.2)
    (line_stops c.loop-t.invariant c.requires.1 t.t t.ensures.takes t.ensures.inside.2 c.in_err-reading.field-0.0 c.in_err-reading.ensures passed rest n g l)
