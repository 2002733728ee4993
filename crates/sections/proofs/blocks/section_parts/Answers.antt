-- Each run begins where the one before it ends, so they part the lines behind the header as the definition does.
use Rattle.sections.proofs.BlockLaws.{parts_are}
use native.Mathlib.Omega.{arith}
use Rattle.sections.proofs.blocks.section_parts.Goals as goal

pub returns : goal.returns
returns c = let a = c.args in
    parts_are a.s.now a.number a.at (omega arith) (omega arith) (omega arith) c.line_at-header.ensures _ _ _ _ c.run_of-early.ensures
    c.run_of-pattern.ensures c.run_of-late.ensures c.lyrics_from-lyrics.ensures
