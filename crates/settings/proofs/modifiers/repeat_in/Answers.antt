-- By its definition a repeat is a number from 2 to 9,999, and just that is read.
use Rattle.songcode.specs.Answer.Numbers.{repeat_in}
use Rattle.settings.proofs.modifiers.repeat_in.Goals as goal

pub returns : goal.returns
unfolding repeat_in
returns c = c.number_in.ensures
