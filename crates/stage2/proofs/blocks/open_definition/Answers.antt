-- Only being late is complained of; the turn is at least 1 from here on, and at most 25 definitions and this one are counted.
use Rattle.stage2.proofs.BlockReturns.{opened_definition}
use Rattle.stage2.proofs.blocks.open_definition.Goals as goal

pub returns : goal.returns
returns c = let q = c.args in
    opened_definition q.k q.l.number c.complain_if-note.result c.max-turn.result c.min-count.result
    c.no_pending.result c.block_state-state.result c.complain_if-note.ensures c.max-turn.ensures
    c.min-count.ensures c.no_pending.ensures c.block_state-state.ensures
