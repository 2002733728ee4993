-- The place of the first byte that is no blank.
use Rattle.std.proofs.Common.{rules}
use mathlib.Core.Path.{◌∙◌}
use borrow.Author.Tests.{tests}
use Rattle.std.proofs.lemmas.Iterator.{YieldsList-from_slice}
use Rattle.std.proofs.lemmas.Iterator.Search.{position_from_yields_List}
use Rattle.text.proofs.FirstLaws.{full, front_found}
use Rattle.text.proofs.lines.front_blanks.Goals as goal

pub returns : goal.returns
returns c = (
  c.unwrap_or.ensures ∙ front_found c.args.t.now (position_from_yields_List full _ _ _ c.position.ensures.ran (YieldsList-from_slice c.args.t.now cc)
      (λ x b q k. search (rules, tests))),
  search rules,
)
