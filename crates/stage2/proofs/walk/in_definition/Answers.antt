-- The line is complained of nothing: what it leaves pending and what the row keeps are told of every pattern line.
use Rattle.stage2.proofs.WalkReturns.{in_text}
use Rattle.text.specs.Spans.{line_text}
use Rattle.stage2.proofs.walk.in_definition.Goals as goal

pub returns : goal.returns
returns c = let q = c.args in record {
  value = in_text q.c
      (line_text q.s.now q.l) q.p c.pattern_pending.result c.block_state-state.result c.pattern_pending.ensures.value c.block_state-state.ensures;
  keeps = c.pattern_pending.ensures.keeps;
}
