-- Where it is not needed there is no block; where it is, the parting and then `$1` with its line feed are the bytes of the block.
use mathlib.Core.Path.{sym, ap}
use mathlib.Core.Bool.{not}
use Rattle.flat.proofs.BlockLaws.{no_empty, some_empty}
use Rattle.flat.proofs.songs.put_empty.Goals as goal

pub returns-then-not-needed : goal.returns-then-not-needed
returns-then-not-needed c = sym (no_empty _ _ (ap not c.if-not-needed.true))

pub returns : goal.returns
returns c =
    some_empty _ _ _ _ (ap not c.if-not-needed.false) c.begin_block-begun.ensures c.put_part.ensures
