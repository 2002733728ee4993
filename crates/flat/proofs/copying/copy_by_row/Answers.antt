-- A refusal of the stages is the answer, with the buffer as it was; without one, the row is laid as the copy requires.
use lib.ListN.{length-replicate}
use Rattle.tokens.proofs.KeptLaws.{unmarked_zeros}
use Rattle.judging.proofs.VerdictLaws.{early_refused, late_refused}
use Rattle.flat.proofs.AnswerLaws.{copy_refused}
use Rattle.flat.proofs.copying.copy_by_row.Goals as goal

pub first_stages-requires : goal.first_stages-requires
first_stages-requires g c = (λ k. simp length-replicate (c.requires.0 k), unmarked_zeros _)

pub returns-in_err-first_stages : goal.returns-in_err-first_stages
returns-in_err-first_stages g c =
    let bs = c.args.text.now in
    copy_refused bs c.args.copy.now _ _ c.from_residual.ensures.1 (early_refused bs _ c.in_err-first_stages.ensures)

pub returns-in_err-chart : goal.returns-in_err-chart
returns-in_err-chart g c =
    let bs = c.args.text.now in
    let clear = c.in_ok-first_stages.ensures in
    copy_refused bs c.args.copy.now _ _ c.from_residual-in_err-chart.ensures.1 (late_refused bs clear.0 clear.1 _ c.in_err-chart.ensures)

pub copy_chart-requires : goal.copy_chart-requires
copy_chart-requires g c =
    let clear = c.in_ok-first_stages.ensures in
    let w = c.in_ok-chart.ensures in
    (clear.0, clear.1, w.begins, w.laid)
