-- Past a blank line stands another place; past one that is not blank nothing is passed.
use Rattle.sections.proofs.FrontLaws.{full_told}
use Rattle.sections.proofs.runs.is_full.Goals as goal

pub returns : goal.returns
returns c = let a = c.args in full_told a.s.now a.at c.requires c.past_blank.ensures.0
