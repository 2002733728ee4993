-- Every spelling begins with one of seven letters, so a word that does not has no base; one that does is left to `base_of`.
use Rattle.tokens.proofs.RowLaws.{not_letter, no_row}
use Rattle.tokens.specs.Bases.{base_of}
use borrow.Author.Tests.{not-true, not-false}
use mathlib.Core.Path.{sym, ap, ◌∙◌}
use Rattle.tokens.proofs.bases.longest_base.Goals as goal

pub returns-then-not-is_letter : goal.returns-then-not-is_letter
unfolding base_of
returns-then-not-is_letter c =
    let e = c.byte_at-letter.ensures in
    let n = sym c.is_letter.ensures ∙ not-true _ c.if-not-is_letter.true-raw in
    ap base_of (sym (no_row c.args.w.now (λ p q. not_letter _ n (rw e p) (rw e q))))

pub base_of-requires : goal.base_of-requires
base_of-requires c =
    (sym c.is_letter.ensures ∙ not-false _ c.if-not-is_letter.false-raw, sym c.byte_at-letter.ensures)
