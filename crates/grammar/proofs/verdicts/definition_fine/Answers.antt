-- An item stands last, and no loop is open.
use borrow.Author.Tests.{tests}
use Rattle.std.proofs.Common.{rules}
use Rattle.grammar.specs.Verdicts.{definition_fine}
use Rattle.grammar.proofs.verdicts.definition_fine.Goals as goal

pub returns-then-is_behind : goal.returns-then-is_behind
unfolding definition_fine
returns-then-is_behind c = search (rules, tests)

pub returns-else-is_behind : goal.returns-else-is_behind
unfolding definition_fine
returns-else-is_behind c = search (rules, tests)
