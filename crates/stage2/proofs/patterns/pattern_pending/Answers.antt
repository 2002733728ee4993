-- Part by part: the text begins, or goes on, each as its function tells; behind the run nothing changes, the row neither.
use Rattle.tokens.specs.Kept.{Keeps}
use Rattle.stage2.specs.Walk.{pattern_pending}
use mathlib.Core.Logic.{inl}
use mathlib.Core.Path.{refl}
use Rattle.stage2.proofs.patterns.pattern_pending.Goals as goal

pub returns-in-Keys : goal.returns-in-Keys
unfolding pattern_pending
returns-in-Keys c = record {
  value = rw c.in-Keys.is c.first_line.ensures.value;
  keeps = c.first_line.ensures.keeps;
}

pub returns-in-Early : goal.returns-in-Early
unfolding pattern_pending
returns-in-Early c = record {
  value = rw c.in-Early.is c.first_line-in-Early.ensures.value;
  keeps = c.first_line-in-Early.ensures.keeps;
}

pub returns-in-Pattern : goal.returns-in-Pattern
unfolding pattern_pending
returns-in-Pattern c = record {
  value = rw c.in-Pattern.is c.next_line.ensures.value;
  keeps = c.next_line.ensures.keeps;
}

pub returns-in-Behind : goal.returns-in-Behind
unfolding pattern_pending Keeps
returns-in-Behind c = record {
  value = rw c.in-Behind.is refl;
  keeps = inl refl;
}
