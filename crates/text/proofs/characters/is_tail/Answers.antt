-- A tail is a byte within the range of tails.
use borrow.Author.Rules.{rules}
use Rattle.songcode.specs.Answer.Characters.{is_tail}
use Rattle.text.proofs.characters.is_tail.Goals as goal

pub returns : goal.returns
unfolding is_tail
returns c = search rules
