-- The kind is seen at the first two bytes behind the line's blanks, so bytes behind the line's end do not matter.
use Rattle.sections.proofs.FrontLaws.{pattern_front}
use Rattle.sections.proofs.runs.is_pattern_at.Goals as goal

pub returns : goal.returns
returns c = let a = c.args in
    pattern_front a.s.now 0 a.at c.line_start.result c.line_start.ensures.0 c.is_pattern.ensures
