-- Stage 4's least complaint is put as a refusal, and it goes before what stage 5 refuses.
use mathlib.Core.Path.{refl, ap, ◌∙◌}
use Rattle.refusals.specs.Refusals.{told}
use Rattle.judging.specs.Measures.{metered_refusal}
use Rattle.judging.proofs.StageLaws.{told_or}
use Rattle.judging.proofs.measures.metered_refusal.Goals as goal

pub returns : goal.returns
unfolding metered_refusal
returns c =
    ap told c.or.ensures ∙ told_or c.refusal_of.result c.err.result ∙ rw (c.refusal_of.ensures, c.err.ensures.value) refl
