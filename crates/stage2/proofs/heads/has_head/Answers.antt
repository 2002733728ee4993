-- Whether the first n numbers contain x.
use mathlib.Core.Path.{◌∙◌}
use lib.ListN.{take}
use Rattle.stage2.specs.Heads.{has_head}
use Rattle.stage2.proofs.HeadReturns.{among_heads}
use Rattle.stage2.proofs.heads.has_head.Goals as goal

pub returns : goal.returns
unfolding has_head
returns c = c.contains.ensures.value ∙ among_heads c.args.x (take c.args.n c.args.ids.now)
