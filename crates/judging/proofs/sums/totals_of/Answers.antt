-- The numbers are handed on as they are; only the items hang on a test, and both its cases compute.
use Rattle.songcode.specs.Lists.{provided◌then◌else◌}
use Rattle.judging.specs.Sums.{totals_of}
use Rattle.judging.proofs.sums.totals_of.Goals as goal

pub returns-then-x : goal.returns-then-x
unfolding totals_of provided◌then◌else◌
returns-then-x c = rw c.if-x.true

pub returns-else-x : goal.returns-else-x
unfolding totals_of provided◌then◌else◌
returns-else-x c = rw c.if-x.false
