-- A space or a tab.
use mathlib.Core.Logic.{inl, inr}
use borrow.Author.Tests.{tests}
use Rattle.std.proofs.Common.{rules}
use Rattle.songcode.specs.Bytes.{is_blank}
use Rattle.text.proofs.lines.is_blank.Goals as goal

pub returns-in-32 : goal.returns-in-32
unfolding is_blank
returns-in-32 c = elim c.in-32.is [ inl e ↦ rw e | inr e ↦ rw e ]

pub returns-in_default : goal.returns-in_default
unfolding is_blank
returns-in_default c = search (rules, tests)
