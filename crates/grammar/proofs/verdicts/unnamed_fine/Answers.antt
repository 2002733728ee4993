-- Fine as a definition, and no `$n` was read.
use borrow.Author.Tests.{tests}
use Rattle.std.proofs.Common.{rules}
use Rattle.grammar.specs.Verdicts.{unnamed_fine}
use Rattle.grammar.proofs.verdicts.unnamed_fine.Goals as goal

pub returns-then-definition_fine : goal.returns-then-definition_fine
unfolding unnamed_fine
returns-then-definition_fine c = search (rules, tests)

pub returns-else-definition_fine : goal.returns-else-definition_fine
unfolding unnamed_fine
returns-else-definition_fine c = search (rules, tests)
