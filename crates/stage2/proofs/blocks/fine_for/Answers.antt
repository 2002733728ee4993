-- Whether the place is in a definition decides which of the two verdicts on the check is asked.
use Rattle.songcode.specs.Lists.{provided◌then◌else◌}
use Rattle.stage2.specs.States.{fine_for}
use Rattle.stage2.proofs.blocks.fine_for.Goals as goal

pub returns-then-in_definition : goal.returns-then-in_definition
unfolding fine_for provided◌then◌else◌
returns-then-in_definition c = rw (← c.in_definition.ensures, c.if-in_definition.true) c.definition_fine.ensures

pub returns : goal.returns
unfolding fine_for provided◌then◌else◌
returns c = rw (← c.in_definition.ensures, c.if-in_definition.false) c.section_fine.ensures
