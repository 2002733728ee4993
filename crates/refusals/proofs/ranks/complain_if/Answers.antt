-- Where the test passes there is one complaint, and its rank is below that of none; where it fails there is none.
use Rattle.refusals.specs.Names.{number_of}
use Rattle.refusals.proofs.NameLaws.{number_small}
use Rattle.refusals.proofs.RankLaws.{complained, not_complained}
use Rattle.refusals.proofs.ranks.complain_if.Goals as goal

pub returns-then-test : goal.returns-then-test
returns-then-test c = complained (number_of c.args.why) c.args.line c.args.test c.rank.result (number_small c.args.why)
    c.if-test.true c.rank.ensures

pub returns-else-test : goal.returns-else-test
returns-else-test c = not_complained (number_of c.args.why) c.args.line c.args.test c.if-test.false
