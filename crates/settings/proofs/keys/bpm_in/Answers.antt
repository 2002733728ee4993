-- A bpm is defined as a number from 0 to 400, so the answer of the number's reader is the promise.
use Rattle.songcode.specs.Answer.Keys.{bpm_in}
use Rattle.settings.proofs.keys.bpm_in.Goals as goal

pub returns : goal.returns
unfolding bpm_in
returns c = c.number_in.ensures
