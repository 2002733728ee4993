-- The first token of the first line names it, or nothing does.
use mathlib.Core.Path.{sym, ◌∙◌}
use Rattle.slips.proofs.TextLaws.{named_empty, names_nothing, names_none, names_some}
use Rattle.slips.proofs.signs.named_number.Goals as goal

pub returns-then-run-eq0 : goal.returns-then-run-eq0
returns-then-run-eq0 c = let a = c.args in named_empty a.s.now a.run c.if-run-eq0.true

pub returns-in_default : goal.returns-in_default
returns-in_default c =
    let l = c.line_at-first.ensures in
    names_nothing c.args.s.now c.args.run c.if-run-eq0.false l c.requires.0 c.in_default.ensures.takes

pub returns-then-kind-eq-REFERENCE : goal.returns-then-kind-eq-REFERENCE
returns-then-kind-eq-REFERENCE c =
    let l = c.line_at-first.ensures in
    let t = c.in-Some in
    c.number.ensures.0
    ∙ names_some c.args.s.now c.args.run c.if-run-eq0.false l c.requires.0 t.t t.ensures.takes t.ensures.inside.2
    (sym c.kind.ensures ∙ c.if-kind-eq-REFERENCE.true)

pub returns-else-kind-eq-REFERENCE : goal.returns-else-kind-eq-REFERENCE
returns-else-kind-eq-REFERENCE c =
    let l = c.line_at-first.ensures in
    let t = c.in-Some in
    names_none c.args.s.now c.args.run c.if-run-eq0.false l c.requires.0 t.t t.ensures.takes t.ensures.inside.2
    (λ k. c.if-kind-eq-REFERENCE.false (c.kind.ensures ∙ k))
