-- What is read of the parts is what the section says, as it has no fault; all else holds since it was passed.
use Rattle.sections.proofs.MeetLaws.{section_meets}
use Rattle.sections.proofs.walking.meet.Goals as goal

pub returns : goal.returns
returns c =
    let pre = c.requires in
    section_meets _ _ _ _ pre.0 pre.1 c.pass-x.ensures c.read_parts.ensures
