-- Only where both tests hold is the header's line refused.
use mathlib.Core.Path.{sym, ◌∙◌}
use borrow.Author.Tests.{eq-eqb, ne_eqb}
use Rattle.songcode.specs.Lists.{provided◌then◌else◌}
use Rattle.judging.specs.References.{name_fault}
use Rattle.judging.proofs.references.name_fault.Goals as goal
use Rattle.judging.proofs.references.name_fault.Goals.{else-named-ne0-via-then-named-ne0+else-is_missing, else-named-ne0-via-else-named-ne0}

pub returns-then-is_missing : goal.returns-then-is_missing
unfolding name_fault provided◌then◌else◌
returns-then-is_missing c = rw (ne_eqb _ 0 c.if-named-ne0.true, sym c.is_missing.ensures ∙ c.if-is_missing.true)

pub returns : goal.returns
unfolding name_fault provided◌then◌else◌
returns c =
    elim c.else-named-ne0.branch [
      | else-named-ne0-via-then-named-ne0+else-is_missing w ↦ rw (ne_eqb _ 0 w.if-named-ne0.true, sym w.is_missing.ensures ∙ w.if-is_missing.false)
      | else-named-ne0-via-else-named-ne0 w ↦ rw (eq-eqb _ 0 w.if-named-ne0.false)
    ]
