-- Both cases.
use Rattle.score.specs.Sections.{bit}
use native.Mathlib.Omega.{arith}
use Rattle.laying.proofs.rows.bit_of.Goals as goal

pub returns-then-b : goal.returns-then-b
unfolding bit
returns-then-b c = (rw c.if-b.true, omega arith)

pub returns-else-b : goal.returns-else-b
unfolding bit
returns-else-b c = (rw c.if-b.false, omega arith)
