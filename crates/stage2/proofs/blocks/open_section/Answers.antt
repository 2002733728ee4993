-- A header is judged by its bytes alone; the lesser of late and malformed is given, and that a pattern line is wanted is pending.
use Rattle.stage2.proofs.BlockReturns.{opened_section}
use Rattle.stage2.proofs.blocks.open_section.Goals as goal

pub returns : goal.returns
returns c = let q = c.args in
    opened_section q.k q.l.number q.s.now q.l.start q.l.stop c.complain_if-late.result
    c.complain_if-eight.result c.max-turn.result c.min-note.result
    c.rank-want.result c.header_ok-good.result c.start-check.result c.block_state-state.result
    c.complain_if-late.ensures c.header_ok-good.ensures c.complain_if-eight.ensures
    c.min-note.ensures c.max-turn.ensures
    c.rank-want.ensures c.start-check.ensures c.block_state-state.ensures
