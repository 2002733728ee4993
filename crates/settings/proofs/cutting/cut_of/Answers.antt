-- The three cases of the definition: no measures, measures without beats, and both.
use mathlib.Core.Path.{◌∙◌}
use Rattle.settings.specs.Cuts.{cut_read}
use Rattle.settings.proofs.cutting.cut_of.Goals as goal

pub returns-in_err-m : goal.returns-in_err-m
unfolding cut_read
returns-in_err-m c = c.from_residual.ensures ∙ rw c.in_err-m.was

pub returns-in_err-b : goal.returns-in_err-b
unfolding cut_read
returns-in_err-b c = c.from_residual-in_err-b.ensures ∙ rw (c.in_ok-m.was, c.in_err-b.was)

pub returns : goal.returns
unfolding cut_read
returns c = rw (c.in_ok-m.was, c.in_ok-b.was)
