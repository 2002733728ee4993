-- Stage 1 by its three cases.
use Rattle.refusals.specs.Refusals.{told}
use Rattle.text.proofs.InputLaws.{too_long, bad_character, nothing_wrong}
use Rattle.text.proofs.judge_input.Goals as goal

pub returns-then-s-gt65536 : goal.returns-then-s-gt65536
unfolding told
returns-then-s-gt65536 c = too_long c.args.s.now c.if-s-gt65536.true

pub returns-then-good-s : goal.returns-then-good-s
unfolding told
returns-then-good-s c = bad_character _ c.if-s-gt65536.false c.good_bytes-good.ensures.0 c.if-good-s.true c.line_of.ensures

pub returns : goal.returns
unfolding told
returns c = nothing_wrong _ c.if-s-gt65536.false c.good_bytes-good.ensures.0 c.if-good-s.false
