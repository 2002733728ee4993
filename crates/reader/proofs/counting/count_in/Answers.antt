-- What a stage refuses is the song's answer, with no counts; a chart that can be written is accepted, with the lengths of its tables.
use Rattle.judging.proofs.VerdictLaws.{early_refused, late_refused}
use Rattle.reader.proofs.AnswerLaws.{counted_is, counted_refused}
use Rattle.reader.proofs.counting.count_in.Goals as goal

pub returns-in_err-first_stages : goal.returns-in_err-first_stages
returns-in_err-first_stages c =
    let bs = c.args.text.now in
    counted_refused bs _ _ c.from_residual.ensures.1 (early_refused bs _ c.in_err-first_stages.ensures)

pub returns-in_err-chart : goal.returns-in_err-chart
returns-in_err-chart c =
    let bs = c.args.text.now in
    let clear = c.in_ok-first_stages.ensures in
    counted_refused bs _ _ c.from_residual-in_err-chart.ensures.1 (late_refused bs clear.0 clear.1 _ c.in_err-chart.ensures)

pub returns : goal.returns
returns c =
    let clear = c.in_ok-first_stages.ensures in
    counted_is c.args.text.now _ c.in_ok-chart.chart clear.0 clear.1 c.in_ok-chart.ensures
