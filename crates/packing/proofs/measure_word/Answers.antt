-- `measure_word` meets its contract: both fields fit their bits.
use borrow.Author.Rules.{rules}
use Rattle.songcode.specs.Answer.Tables.{measure_word}
use Rattle.packing.proofs.measure_word.Goals as goal

pub returns : goal.returns
unfolding measure_word
returns c = search rules
