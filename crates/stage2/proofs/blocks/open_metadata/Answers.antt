-- The lesser of two complaints, that the block is late and that of its line; the state is that behind any line of metadata.
use Rattle.stage2.proofs.BlockReturns.{opened_metadata}
use Rattle.text.specs.Spans.{line_text}
use Rattle.stage2.proofs.blocks.open_metadata.Goals as goal

pub returns : goal.returns
returns c =
    let q = c.args in
    let late = c.complain_if-late in
    opened_metadata q.k (line_text q.s.now q.l) c.metadata_line-noted.result.note c.metadata_line-noted.result.marks c.metadata_state-state.result
    c.metadata_line-noted.ensures.0 c.metadata_line-noted.ensures.1
    c.metadata_state-state.ensures late.result c.min-note.result late.ensures c.min-note.ensures
