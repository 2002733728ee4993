-- The line is at most 131,071 and the number below 32, so that nothing overflows, the sum is the model's, and it has the number.
use Rattle.refusals.specs.Ranks.{ranked}
use borrow.Author.Rules.{rules}
use Rattle.refusals.proofs.ranks.rank.Goals as goal

pub returns : goal.returns
unfolding ranked
returns c = search rules
