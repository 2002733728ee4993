-- The check goes on over the line end and the line's tokens, whose words are kept; all else that is pending stays.
use mathlib.Core.Logic.{inr}
use mathlib.Core.Path.{refl}
use Rattle.tokens.specs.Kept.{Keeps}
use Rattle.stage2.proofs.patterns.next_line.Goals as goal

pub returns : goal.returns
unfolding Keeps
returns c = record {
  value = rw (c.check_kept-check.ensures.check, c.line_between.ensures) refl;
  keeps = inr c.check_kept-check.ensures.held;
}
