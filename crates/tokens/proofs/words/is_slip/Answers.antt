-- A byte is one of the four, or none of them.
use mathlib.Core.Logic.{inl, inr}
use mathlib.Core.Path.{refl, sym}
use native.Mathlib.Omega.{arith}
use borrow.Author.Tests.{tests}
use Rattle.std.proofs.Common.{rules}
use Rattle.tokens.specs.Lexing.{is_slip_byte}
use Rattle.tokens.proofs.TakenLaws.{slip_is, slip_low, slip_none}
use Rattle.tokens.proofs.words.is_slip.Goals as goal

pub returns-in-37 : goal.returns-in-37
unfolding is_slip_byte
returns-in-37 c = sym (elim c.in-37.is [ inl h ↦ slip_is c.args.b 61 refl h | inr h ↦ slip_is c.args.b 95 refl h ])

pub returns-in-37-2 : goal.returns-in-37-2
returns-in-37-2 c = sym (slip_low c.args.b (omega arith) (omega arith))

pub returns-in_default : goal.returns-in_default
returns-in_default c = search (rules, tests, slip_none)

pub returns-in_default-2 : goal.returns-in_default-2
returns-in_default-2 c = search (rules, tests, slip_none)
