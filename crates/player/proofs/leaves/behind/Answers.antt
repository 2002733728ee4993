-- Both cases of the test; where a closing bracket is read it stands inside the row, so `at + 1` does not overflow.
use Rattle.player.proofs.SignLaws.{word_inside}
use Rattle.player.specs.Walks.{behind_of}
use Rattle.std.proofs.Common.{arith, eq-eqb, ne_eqb}
use Rattle.songcode.specs.Lists.{provided◌then◌else◌}
use Rattle.player.proofs.leaves.behind.Goals as goal

pub overflow_add-result : goal.overflow_add-result
overflow_add-result c =
    let a = c.args in
    let h = word_inside a.words.now a.to a.at (λ z. omega (arith, z, c.kind.ensures, c.word_at.ensures, c.if-kind-eq-CLOSES.true)) in
    omega (arith, h.0)

pub returns-then-kind-eq-CLOSES : goal.returns-then-kind-eq-CLOSES
unfolding behind_of provided◌then◌else◌
returns-then-kind-eq-CLOSES c = (simp (← c.word_at.ensures, ← c.kind.ensures, eq-eqb _ _ c.if-kind-eq-CLOSES.true), omega arith)

pub returns-else-kind-eq-CLOSES : goal.returns-else-kind-eq-CLOSES
unfolding behind_of provided◌then◌else◌
returns-else-kind-eq-CLOSES c = (simp (← c.word_at.ensures, ← c.kind.ensures, ne_eqb _ _ c.if-kind-eq-CLOSES.false), omega arith)
