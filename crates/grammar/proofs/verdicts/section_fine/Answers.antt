-- Fine as a definition, with a `$n` alone or none.
use borrow.Author.Tests.{tests}
use Rattle.std.proofs.Common.{rules}
use Rattle.grammar.specs.Verdicts.{section_fine}
use Rattle.grammar.proofs.verdicts.section_fine.Goals as goal

pub returns-then-is_alone : goal.returns-then-is_alone
unfolding section_fine
returns-then-is_alone c = search (rules, tests)

pub returns-else-is_alone : goal.returns-else-is_alone
unfolding section_fine
returns-else-is_alone c = search (rules, tests)

pub returns-else-definition_fine : goal.returns-else-definition_fine
unfolding section_fine
returns-else-definition_fine c = search (rules, tests)
