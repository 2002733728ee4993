-- The text is complained of unless its check is fine, and the least of the three that are pending is taken.
use Rattle.stage2.proofs.BlockReturns.{block_closed}
use Rattle.stage2.proofs.blocks.close_block.Goals as goal

pub returns : goal.returns
returns c = block_closed c.args.c c.fine_for-fine.result
    c.none_if-seven.result c.min.result c.min-2.result c.fine_for-fine.ensures
    c.none_if-seven.ensures c.min.ensures c.min-2.ensures
