-- One more than the line ends before the place; a place past the text has them all before it.
use mathlib.Core.Path.{ap, ◌∙◌}
use native.Mathlib.Omega.{arith}
use lib.ListN.{length-take}
use Rattle.std.proofs.lemmas.List.{take_min}
use Rattle.text.specs.Ends.{line_ends}
use Rattle.text.proofs.EndLaws.{line_within}
use Rattle.text.proofs.ends.line_of.Goals as goal

pub overflow_add-result : goal.overflow_add-result
overflow_add-result c = omega (arith, length-take c.min.result c.args.s.now)

pub returns : goal.returns
returns c = line_within c.args.s.now c.args.place (c.line_ends.ensures.0 ∙ ap line_ends (rw c.min.ensures (take_min c.args.place c.args.s.now)))
