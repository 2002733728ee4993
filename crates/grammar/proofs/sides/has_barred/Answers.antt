-- Any byte of the part.
use mathlib.Core.Path.{◌∙◌}
use borrow.Author.Tests.{tests}
use Rattle.std.proofs.Common.{rules}
use Rattle.std.proofs.lemmas.Iterator.{YieldsList-from_slice}
use Rattle.std.proofs.lemmas.Iterator.Search.{any_from_yields_List}
use Rattle.text.specs.Spans.{part}
use Rattle.grammar.specs.Sides.{barred_byte}
use Rattle.grammar.proofs.PartLaws.{barred_among}
use Rattle.grammar.proofs.sides.has_barred.Goals as goal

pub returns : goal.returns
returns c =
    let bytes = part c.args.from c.args.to c.args.s.now in
    any_from_yields_List barred_byte _ _ _ c.any.ensures.ran (YieldsList-from_slice bytes cc) (λ x b q k. search (rules, tests))
    ∙ barred_among c.args.from bytes
