-- Slices compare byte by byte, as texts do.
use mathlib.Core.Path.{◌∙◌}
use Rattle.settings.proofs.PartLaws.{same_is}
use Rattle.settings.proofs.parts.same_text.Goals as goal

pub returns : goal.returns
returns c = c.eq.ensures ∙ same_is c.args.word.now c.args.w.now
