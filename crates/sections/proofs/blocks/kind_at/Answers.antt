-- The kind is seen at the line's first byte that is no blank, so bytes behind the line's end do not matter.
use Rattle.sections.proofs.NextLaws.{kind_is_lem}
use Rattle.sections.proofs.blocks.kind_at.Goals as goal

pub returns : goal.returns
returns c = let a = c.args in
    kind_is_lem a.s.now a.number a.at c.line_start.result c.line_start.ensures.0 c.block_kind.ensures
