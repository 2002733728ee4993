-- The place of the first byte that is of that value.
use mathlib.Core.Path.{◌≡◌, sym, ◌∙◌}
use mathlib.Core.Bool.{true, false, not}
use borrow.Author.Tests.{tests}
use Rattle.std.proofs.Common.{rules}
use Rattle.std.proofs.lemmas.Iterator.{IsFirst-from_position, YieldsList-from_slice}
use lib.Dec.{eqb}
use Rattle.settings.proofs.PartLaws.{passing_found}
use Rattle.settings.proofs.parts.length_before.Goals as goal

pub returns : goal.returns
returns c =
    let first = IsFirst-from_position _ _ _ (λ b. not (eqb b c.args.c) ≡ false) (λ b. not (eqb b c.args.c) ≡ true) c.position.ensures.ran
    (YieldsList-from_slice c.args.w.now cc)
    (λ x q k. search (rules, tests)) (λ x q k. search (rules, tests)) in
    (c.unwrap_or.ensures ∙ sym (passing_found (λ b. not (eqb b c.args.c)) c.args.w.now c.position.result first), search rules)
