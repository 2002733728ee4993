-- No setting cuts nothing; any other has a text, whose cut fits and is the same wherever it stands.
use Rattle.sections.proofs.ValueLaws.{no_cut, a_cut}
use Rattle.sections.proofs.values.cut_said.Goals as goal

pub returns-in-None : goal.returns-in-None
returns-in-None c = no_cut c.args.s.now c.in-None.is

pub returns-in-Some : goal.returns-in-Some
returns-in-Some c = (a_cut c.args.s.now c.in-Some.is c.cut_in.ensures.0, c.cut_in.ensures.1)
