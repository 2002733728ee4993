-- Complaint and marks are those of the line, and the state behind it carries these marks.
use Rattle.stage2.proofs.BlockReturns.{in_metadata_lem}
use Rattle.text.specs.Spans.{line_text}
use Rattle.stage2.proofs.blocks.in_metadata.Goals as goal

pub returns : goal.returns
returns c =
    let q = c.args in
    in_metadata_lem q.k (line_text q.s.now q.l) c.metadata_line-noted.result.note c.metadata_line-noted.result.marks c.metadata_state-state.result
    c.metadata_line-noted.ensures.0 c.metadata_line-noted.ensures.1
    c.metadata_state-state.ensures
