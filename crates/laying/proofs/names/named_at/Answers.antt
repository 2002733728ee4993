-- The word read is the first of the text; where its kind is a reference's, its number is named, and else 0 is.
use mathlib.Core.Path.{sym, ◌∙◌}
use borrow.Author.Tests.{eq-eqb, ne_eqb}
use Rattle.songcode.specs.Lists.{provided◌then◌else◌}
use Rattle.laying.specs.Laying.{named_at}
use Rattle.laying.proofs.names.named_at.Goals as goal

pub returns-then-kind-eq-REFERENCE : goal.returns-then-kind-eq-REFERENCE
unfolding named_at provided◌then◌else◌
returns-then-kind-eq-REFERENCE c =
    let w = c.word_at-w.ensures in
    rw (← w, eq-eqb _ 55 (sym c.kind.ensures ∙ c.if-kind-eq-REFERENCE.true)) c.number.ensures.0

pub returns-else-kind-eq-REFERENCE : goal.returns-else-kind-eq-REFERENCE
unfolding named_at provided◌then◌else◌
returns-else-kind-eq-REFERENCE c =
    let w = c.word_at-w.ensures in
    rw (← w, ne_eqb _ 55 (λ e. c.if-kind-eq-REFERENCE.false (c.kind.ensures ∙ e)))
