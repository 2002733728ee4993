-- `turnipcart_count` meets its contract: the six numbers that it lays down are those of the answer that `reader::count` promises.
use Rattle.turnipcart.proofs.Outcomes.{count_laid}
use Rattle.turnipcart.proofs.count.turnipcart_count.Goals as goal

pub returns : goal.returns
returns c = let count = c.count-a in count_laid _ count.result count.ensures
