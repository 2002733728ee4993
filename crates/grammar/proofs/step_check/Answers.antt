-- The word tells its kind, and one step by that kind is the model's step.
use mathlib.Core.Path.{ap, ◌∙◌}
use Rattle.grammar.specs.Checks.{check_step}
use Rattle.grammar.specs.declared.kinds.Kind.{Kind}
use Rattle.grammar.proofs.step_check.Goals as goal

pub returns : goal.returns
returns c = c.step_kind.ensures ∙ ap (λ (k : Kind). check_step c.args.c k) c.kind_of.ensures
