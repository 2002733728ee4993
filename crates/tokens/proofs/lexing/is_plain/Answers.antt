-- A blank and the four signs are not plain, and any other byte is.
use mathlib.Core.Logic.{inl, inr}
use mathlib.Core.Path.{◌≡◌, refl, sym, ap, ◌∙◌}
use mathlib.Core.Bool.{true, not}
use borrow.Author.Tests.{tests}
use Rattle.std.proofs.Common.{rules}
use Rattle.tokens.specs.Lexing.{is_plain}
use native.Mathlib.Omega.{arith}
use Rattle.tokens.proofs.LexLaws.{blank_not_plain, sign_not_plain, colons_not_plain, plain_byte}
use Rattle.tokens.proofs.lexing.is_plain.Goals as goal
use Rattle.tokens.proofs.lexing.is_plain.Goals.{in_default, in_default-2, in-59, in-59-2}

pub returns-else-not-is_blank : goal.returns-else-not-is_blank
returns-else-not-is_blank c = ap not c.if-not-is_blank.false ∙ sym (blank_not_plain c.args.b (sym c.is_blank.ensures ∙ c.if-not-is_blank.false))

pub returns-after-matches : goal.returns-after-matches
unfolding is_plain
returns-after-matches c =
    let b = c.args.b in
    let e = sym c.is_blank.ensures ∙ c.if-not-is_blank.true in
    elim c.match-matches.branch [
      | in_default w ↦ let p : is_plain b ≡ true = search (rules, tests, plain_byte) in ap not w.matches-is ∙ sym p
      | in_default-2 w ↦ let p : is_plain b ≡ true = search (rules, tests, plain_byte) in ap not w.matches-is ∙ sym p
      | in-59 w ↦ ap not w.matches-is ∙ sym (elim w.in-59.is [ inl h ↦ sign_not_plain b 91 refl h | inr h ↦ sign_not_plain b 93 refl h ])
      | in-59-2 w ↦ ap not w.matches-is ∙ sym (colons_not_plain b (omega arith) (omega arith))
    ]
