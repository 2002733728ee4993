-- `turnipcart_explain` meets its contract: the ten numbers that it lays down are those that `explain::explain` promises.
use Rattle.turnipcart.proofs.CauseLaws.{explained_laid}
use Rattle.turnipcart.proofs.cause.turnipcart_explain.Goals as goal

pub returns : goal.returns
returns c = let x = c.explain-x in explained_laid _ x.result x.ensures
