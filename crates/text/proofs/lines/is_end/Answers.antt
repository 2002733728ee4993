-- A byte ends a line where it is one of the two, and none above both does.
use mathlib.Core.Path.{◌∙◌}
use mathlib.Core.Logic.{inl, inr}
use native.Mathlib.Omega.{arith}
use borrow.Author.Tests.{tests, lt-leb}
use Rattle.std.proofs.Common.{rules}
use Rattle.text.proofs.SpanLaws.{ends_lf, ends_cr, ends_none}
use Rattle.text.proofs.lines.is_end.Goals as goal

pub returns-in-10 : goal.returns-in-10
returns-in-10 c = elim c.in-10.is [ inl e ↦ ends_lf _ e | inr e ↦ ends_cr _ e ]

pub returns-in_default : goal.returns-in_default
returns-in_default c = search (rules, tests, ends_none)

pub returns-else-b-le13 : goal.returns-else-b-le13
returns-else-b-le13 c = lt-leb _ _ c.if-b-le13.false ∙ ends_none c.args.b (λ z. omega arith) (λ z. omega arith)
