-- The search finds the first number that both divide, or none up to 32.
use Rattle.std.proofs.Common.{◌≡◌, true, false, ◌&&◌, rules, tests, ◌∙◌, refl}
use Rattle.std.proofs.lemmas.Iterator.{first_from_Range}
use Rattle.outlines.specs.Sizes.{divides, common_by}
use Rattle.outlines.proofs.SizeLaws.{first_is}
use Rattle.outlines.proofs.sizes.common.Goals as goal

pub returns : goal.returns
unfolding common_by
returns c =
    let a = c.args in
    c.unwrap_or.ensures
    ∙ first_is (λ n. divides a.a n && divides a.b n) 32 1 33 c.find.result refl
    (first_from_Range _ _ _ c.find.result (λ n. (divides a.a n && divides a.b n) ≡ true) (λ n. (divides a.a n && divides a.b n) ≡ false) c.find.ensures.ran
    (λ x q k. search (rules, tests))
    (λ x q k. search (rules, tests)))
