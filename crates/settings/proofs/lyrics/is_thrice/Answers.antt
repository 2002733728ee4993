-- A byte that differs makes both false; behind two that are the same the third comparison is all that is left.
use borrow.Author.Tests.{tests}
use Rattle.std.proofs.Common.{rules}
use Rattle.songcode.specs.Bytes.{begins}
use Rattle.settings.proofs.lyrics.is_thrice.Goals as goal

pub returns-then-m-y : goal.returns-then-m-y
unfolding begins
returns-then-m-y c = search (rules, tests)

pub returns-else-m-y : goal.returns-else-m-y
unfolding begins
returns-else-m-y c = search (rules, tests)
