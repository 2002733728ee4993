-- The library's letters are those of the definition.
use Rattle.songcode.specs.Bytes.{is_letter}
use Rattle.settings.proofs.kinds.is_letter.Goals as goal

pub returns : goal.returns
unfolding is_letter
returns c = c.is_ascii_alphabetic.ensures.value
