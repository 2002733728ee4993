-- The two bytes that are barred, or another.
use mathlib.Core.Bool.{true}
use mathlib.Core.Logic.{inl, inr}
use mathlib.Core.Path.{◌≡◌, refl}
use borrow.Author.Tests.{tests}
use Rattle.grammar.specs.Sides.{barred_byte}
use Rattle.std.proofs.Common.{rules}
use Rattle.songcode.specs.Bytes.{is_byte}
use Rattle.songcode.specs.Answer.PatternText.{barred}
use Rattle.grammar.proofs.sides.is_barred.Goals as goal

pub returns-in-58 : goal.returns-in-58
unfolding barred is_byte
returns-in-58 c = elim c.in-58.is as (λ _. true ≡ barred_byte c.args.b) [ inl e ↦ rw e refl | inr e ↦ rw e refl ]

pub returns-in_default : goal.returns-in_default
unfolding barred is_byte
returns-in_default c = search (rules, tests)
