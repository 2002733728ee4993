-- Past the run it is complained of; what is pending behind it, what the row keeps and the next part are as told.
use Rattle.stage2.proofs.MetadataReturns.{pattern_judged}
use Rattle.text.specs.Spans.{line_text}
use Rattle.stage2.proofs.lines.pattern_line.Goals as goal

pub returns : goal.returns
returns c = let q = c.args in
    let past = c.past_pattern in
    let out = c.complain_if-note in record {
      value = pattern_judged q.p q.c (line_text q.s.now q.l) out.result past.result c.pattern_pending-pending.result c.after_pattern.result
          past.ensures out.ensures c.pattern_pending-pending.ensures.value c.after_pattern.ensures;
      keeps = c.pattern_pending-pending.ensures.keeps;
    }
