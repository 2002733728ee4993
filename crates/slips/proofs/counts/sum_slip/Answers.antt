-- Clause and name are those of the header; one more line beside them changes neither.
use Rattle.slips.proofs.counts.sum_slip.Goals as goal

pub returns : goal.returns
returns c = c.header_name-name.ensures
