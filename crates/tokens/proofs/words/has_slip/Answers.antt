-- Some byte of the text is one.
use mathlib.Core.Path.{◌∙◌}
use borrow.Author.Tests.{tests}
use Rattle.std.proofs.Common.{rules}
use Rattle.std.proofs.lemmas.Iterator.{YieldsList-from_slice}
use Rattle.std.proofs.lemmas.Iterator.Search.{any_from_yields_List}
use Rattle.tokens.specs.Lexing.{is_slip_byte}
use Rattle.tokens.proofs.TakenLaws.{slips_any}
use Rattle.tokens.proofs.words.has_slip.Goals as goal

pub returns : goal.returns
returns c = any_from_yields_List is_slip_byte _ _ _ c.any.ensures.ran (YieldsList-from_slice c.args.w.now cc) (λ x b q k. search (rules, tests))
    ∙ slips_any c.args.w.now
