-- A base is the longest at its own front, so a word is one exactly where its longest base is as long as the word.
use lib.Dec.{eqb}
use lib.ListN.{length}
use Rattle.tokens.proofs.BaseLaws.{base_exactly, base_none}
use Rattle.tokens.specs.declared.bases.Base.{Base}
use mathlib.Core.Path.{sym, ap, ◌∙◌}
use Rattle.tokens.proofs.bases.is_base.Goals as goal

pub returns-then-b-eq0 : goal.returns-then-b-eq0
returns-then-b-eq0 c =
    let e = c.longest_base-b.ensures in
    base_none c.args.w.now (ap (λ (b : Base). b.length) (sym e) ∙ c.if-b-eq0.true)

pub returns : goal.returns
returns c =
    let e = ap (λ (b : Base). b.length) c.longest_base-b.ensures in
    let w = c.args.w.now in
    ap (λ l. eqb l (length w)) e ∙ base_exactly w (λ z. c.if-b-eq0.false (e ∙ z))
