-- One byte where there is no sign, else two: the test of the definition, and both are at most 2.
use Rattle.tokens.specs.Bases.{major_length}
use Rattle.songcode.specs.Lists.{provided◌then◌else◌}
use borrow.Author.Tests.{eq-eqb, ne_eqb}
use native.Mathlib.Omega.{arith}
use Rattle.tokens.proofs.bases.major_len.Goals as goal

pub returns-then-sign-eq0 : goal.returns-then-sign-eq0
unfolding major_length provided◌then◌else◌
returns-then-sign-eq0 c = (simp (eq-eqb _ _ c.if-sign-eq0.true), omega arith)

pub returns-else-sign-eq0 : goal.returns-else-sign-eq0
unfolding major_length provided◌then◌else◌
returns-else-sign-eq0 c = (simp (ne_eqb _ _ c.if-sign-eq0.false), omega arith)
