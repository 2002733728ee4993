-- The next block is looked for where the section's lines end, so the sections from here are this one and those from there on.
use Rattle.sections.proofs.MeetLaws.{section_passes}
use Rattle.sections.proofs.walking.pass.Goals as goal

pub returns : goal.returns
returns c =
    let pre = c.requires in
    section_passes _ _ _ _ pre.0 pre.1 c.section_parts-section.ensures c.next_block-next.ensures
