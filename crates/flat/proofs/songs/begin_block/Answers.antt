-- On an empty sheet no blank line is due; on any other the line feed that is put is the parting.
use mathlib.Core.Path.{sym, ◌∙◌}
use Rattle.flat.proofs.BlockLaws.{parted_none, parted_some}
use Rattle.flat.proofs.songs.begin_block.Goals as goal

pub returns-then-at-eq0 : goal.returns-then-at-eq0
returns-then-at-eq0 c = sym (parted_none _ _ c.if-at-eq0.true)

pub returns : goal.returns
returns c = c.put.ensures ∙ sym (parted_some _ _ c.if-at-eq0.false)
