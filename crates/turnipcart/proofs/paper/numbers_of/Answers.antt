-- The numbers are those of the answer, case by case.
use mathlib.Core.Path.{refl}
use Rattle.flat.specs.Answers.{copied_as}
use Rattle.turnipcart.specs.Answers.{copied_in}
use Rattle.turnipcart.proofs.paper.numbers_of.Goals as goal

pub returns-in-Ok : goal.returns-in-Ok
unfolding copied_in copied_as
returns-in-Ok c = rw c.in-Ok.is refl

pub returns-in-Err : goal.returns-in-Err
unfolding copied_in copied_as
returns-in-Err c = rw (c.in-Err.is, c.from.ensures) refl
