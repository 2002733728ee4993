-- Up to 9,999 a number is written with one digit more from 10, from 100 and from 1,000 on: the three tests of the code.
use borrow.Author.Tests.{lt-ltb, le-ltb}
use Rattle.songcode.specs.Lists.{provided◌then◌else◌}
use Rattle.judging.proofs.DigitLaws.{written_length}
use Rattle.judging.proofs.counts.digits_of.Goals as goal

pub returns-then-n-lt10 : goal.returns-then-n-lt10
unfolding provided◌then◌else◌
returns-then-n-lt10 c = rw (lt-ltb _ 10 c.if-n-lt10.true) at (written_length c.args.n c.requires)

pub returns-then-n-lt100 : goal.returns-then-n-lt100
unfolding provided◌then◌else◌
returns-then-n-lt100 c =
    rw (le-ltb _ 10 c.if-n-lt10.false, lt-ltb _ 100 c.if-n-lt100.true) at (written_length c.args.n c.requires)

pub returns-then-n-lt1000 : goal.returns-then-n-lt1000
unfolding provided◌then◌else◌
returns-then-n-lt1000 c =
    rw (le-ltb _ 10 c.if-n-lt10.false, le-ltb _ 100 c.if-n-lt100.false, lt-ltb _ 1000 c.if-n-lt1000.true)
    at (written_length c.args.n c.requires)

pub returns-else-n-lt1000 : goal.returns-else-n-lt1000
unfolding provided◌then◌else◌
returns-else-n-lt1000 c =
    rw (le-ltb _ 10 c.if-n-lt10.false, le-ltb _ 100 c.if-n-lt100.false, le-ltb _ 1000 c.if-n-lt1000.false)
    at (written_length c.args.n c.requires)
