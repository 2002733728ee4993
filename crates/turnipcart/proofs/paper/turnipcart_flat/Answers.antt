-- `turnipcart_flat` meets its contract: the three numbers that it lays down are those that `flat::flat_copy` promises.
use Rattle.turnipcart.proofs.PaperLaws.{copied_laid}
use Rattle.turnipcart.proofs.paper.turnipcart_flat.Goals as goal

pub returns : goal.returns
returns c = copied_laid _ _ _ _ _ c.numbers_of.ensures c.flat_copy.ensures
