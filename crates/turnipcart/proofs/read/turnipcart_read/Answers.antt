-- `turnipcart_read` meets its contract: the six numbers that it lays down are those of the answer that `reader::read` promises.
use Rattle.turnipcart.proofs.Outcomes.{read_laid}
use Rattle.turnipcart.proofs.read.turnipcart_read.Goals as goal

pub returns : goal.returns
returns c =
    let read = c.read-a in
    read_laid _ _ read.result _ read.ensures
