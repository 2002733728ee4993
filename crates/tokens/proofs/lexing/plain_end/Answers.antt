-- The place, and how far the first byte stands behind it that is not plain.
use mathlib.Core.Path.{◌≡◌, ◌∙◌}
use native.Mathlib.Omega.{arith}
use borrow.Author.Tests.{tests}
use Rattle.std.proofs.Common.{rules}
use Rattle.std.proofs.lemmas.Iterator.{YieldsList-from_slice}
use Rattle.std.proofs.lemmas.Iterator.Search.{position_from_yields_List}
use Rattle.text.specs.Spans.{part}
use Rattle.text.proofs.WalkLaws.{part_length}
use Rattle.tokens.specs.Lexing.{plain_length}
use Rattle.tokens.proofs.LexLaws.{is_ending, plain_found, plain_le}
use Rattle.tokens.proofs.lexing.plain_end.Goals as goal
use Rattle.tokens.proofs.lexing.plain_end.Goals.{After-unwrap_or}

found : (c : After-unwrap_or) → c.unwrap_or.result ≡ plain_length (part c.args.from c.args.stop c.args.s.now)
found c = c.unwrap_or.ensures ∙ plain_found _ (position_from_yields_List is_ending _ _ _ c.position.ensures.ran (YieldsList-from_slice _ cc)
    (λ x b q k. search (rules, tests)))

pub returns : goal.returns
returns c =
    let p = part c.args.from c.args.stop c.args.s.now in
    omega (arith, found c, plain_le p, part_length c.args.s.now c.args.from c.args.stop c.requires.1)
