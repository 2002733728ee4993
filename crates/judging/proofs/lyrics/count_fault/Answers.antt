-- Only where both tests hold is a line refused.
use borrow.Author.Tests.{eq-eqb, ne_eqb}
use Rattle.songcode.specs.Lists.{provided◌then◌else◌}
use Rattle.judging.specs.Lyrics.{count_fault}
use Rattle.judging.proofs.lyrics.count_fault.Goals as goal
use Rattle.judging.proofs.lyrics.count_fault.Goals.{else-y-via-then-y+else-y-ne0, else-y-via-else-y}

pub returns-then-y-ne0 : goal.returns-then-y-ne0
unfolding count_fault provided◌then◌else◌
returns-then-y-ne0 c = rw (c.if-y.true, ne_eqb _ 0 c.if-y-ne0.true)

pub returns : goal.returns
unfolding count_fault provided◌then◌else◌
returns c =
    elim c.else-y.branch [
      | else-y-via-then-y+else-y-ne0 w ↦ rw (w.if-y.true, eq-eqb _ 0 w.if-y-ne0.false)
      | else-y-via-else-y w ↦ rw w.if-y.false
    ]
