-- `section_word` meets its contract: every field fits its bits, so every product and sum does.
use borrow.Author.Rules.{rules}
use Rattle.songcode.specs.Answer.Tables.{section_word}
use Rattle.packing.proofs.section_word.Goals as goal

pub returns : goal.returns
unfolding section_word
returns c = search rules
