-- The library's `==` says whether the text is the one byte.
use mathlib.Core.Path.{ap, ◌∙◌}
use lib.Dec.{eqb}
use lib.Pointwise.{pointwise}
use Rattle.tokens.proofs.WordLaws.{sign_same}
use Rattle.tokens.proofs.words.is_sign.Goals as goal

pub returns : goal.returns
returns c = c.eq.ensures ∙ ap (pointwise eqb c.args.w.now) c.as_slice.ensures ∙ sign_same c.args.sign c.args.w.now
