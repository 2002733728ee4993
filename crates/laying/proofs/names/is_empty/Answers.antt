-- The number named is known; 0 is no name, and for any other the outline looked up tells whether it is empty.
use mathlib.Core.Path.{sym, ap, ◌∙◌}
use borrow.Author.Tests.{eq-eqb, ne_eqb}
use Rattle.songcode.specs.Lists.{provided◌then◌else◌}
use Rattle.outlines.specs.declared.readings.Outline.{Outline}
use Rattle.laying.specs.Scores.{is_empty_text}
use Rattle.laying.proofs.names.is_empty.Goals as goal

pub returns-then-named-eq0 : goal.returns-then-named-eq0
unfolding is_empty_text provided◌then◌else◌
returns-then-named-eq0 c = rw (eq-eqb _ 0 (sym c.named_at-named.ensures ∙ c.if-named-eq0.true))

pub returns : goal.returns
unfolding is_empty_text provided◌then◌else◌
returns c =
    let n = c.named_at-named in
    rw (← n.ensures, ne_eqb _ 0 c.if-named-eq0.false) (ap (λ (o : Outline). o.empty) c.outline_for-o.ensures)
