-- Below 7 bytes the test of the length fails; else the text read from its end begins with its last three bytes.
use mathlib.Core.Path.{sym, ◌∙◌}
use native.Mathlib.Omega.{arith}
use mathlib.Core.List.{[], ◌∷◌}
use Rattle.settings.proofs.StyleLaws.{marked_short, marked_by}
use Rattle.settings.proofs.lyrics.is_marked.Goals as goal

pub returns-then-n-lt7 : goal.returns-then-n-lt7
returns-then-n-lt7 c = let a = c.args in sym (marked_short (a.m ∷ a.m ∷ a.m ∷ []) a.w.now c.if-n-lt7.true)

pub returns-then-is_thrice : goal.returns-then-is_thrice
returns-then-is_thrice c = let a = c.args in
    let e = sym c.is_thrice.ensures ∙ c.if-is_thrice.true in
    c.is_thrice-then-is_thrice.ensures ∙ sym (marked_by a.m a.w.now (omega arith) ∙ rw e)

pub returns-else-is_thrice : goal.returns-else-is_thrice
returns-else-is_thrice c = let a = c.args in
    let e = sym c.is_thrice.ensures ∙ c.if-is_thrice.false in
    c.if-is_thrice.false ∙ sym (marked_by a.m a.w.now (omega arith) ∙ rw e)
