-- Of what is carried only the marks are new, and around it stands the state of a block with nothing pending.

use Rattle.stage2.proofs.blocks.metadata_state.Goals as goal

pub returns : goal.returns
returns c = rw (c.block_state.ensures, c.no_pending.ensures)
