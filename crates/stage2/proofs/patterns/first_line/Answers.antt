-- The check begins anew with the tokens of this line, whose words are kept, and a fault of the text will name its number.
use mathlib.Core.Logic.{inr}
use mathlib.Core.Path.{refl}
use Rattle.tokens.specs.Kept.{Keeps}
use Rattle.stage2.proofs.patterns.first_line.Goals as goal

pub returns : goal.returns
unfolding Keeps
returns c = record {
  value = rw (c.rank-bad.ensures, c.check_kept-check.ensures.check, c.start.ensures) refl;
  keeps = inr c.check_kept-check.ensures.held;
}
