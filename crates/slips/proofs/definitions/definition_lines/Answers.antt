-- Block by block: the lines that are looked for are those of the blocks from the one at hand on.
use mathlib.Core.Path.{sym, ap, ◌∙◌}
use native.Mathlib.Omega.{arith}
use Rattle.sections.proofs.NextLaws.{blocks_start}
use Rattle.slips.specs.PatternText.{definition_lines}
use Rattle.slips.proofs.DefinitionLaws.{lines_here, lines_later, lines_nowhere, no_lines}
use Rattle.slips.proofs.definitions.definition_lines.Goals as goal

pub loop-p-init : goal.loop-p-init
loop-p-init c =
    let t = c.next_block-p.ensures in
    let a = c.args in
    (t.number, t.counted, t.inside, λ q. sym t.same ∙ t.there q, ap (definition_lines a.number) (blocks_start a.s.now ∙ t.same))

pub returns-then-is_defined_at : goal.returns-then-is_defined_at
returns-then-is_defined_at c =
    let a = c.args in
    let i = c.loop-p.invariant in
    let d = c.read_definition-d.ensures in
    let w = c.loop-p-test.true in
    let t = c.if-is_defined_at.true in
    let here = lines_here a.s.now a.number c.loop-p.p i.3 w (sym c.is_defined_at.ensures ∙ t) in
    (d.pattern_placed.counted, d.pattern_placed.inside, d.pattern ∙ sym (i.4 ∙ here))

pub loop-p-preserved : goal.loop-p-preserved
loop-p-preserved c =
    let a = c.args in
    let i = c.loop-p.invariant in
    let e = c.block_behind-p.ensures in
    let w = c.loop-p-test.true in
    let t = c.if-is_defined_at.false in
    let later = lines_later a.s.now a.number c.loop-p.p i.3 w (sym c.is_defined_at.ensures ∙ t) _ e.4 in
    (e.0, e.1, e.3, e.4.opens, i.4 ∙ later)

pub returns : goal.returns
returns c =
    let a = c.args in
    let i = c.loop-p.invariant in
    let nowhere = lines_nowhere a.s.now a.number c.loop-p.p c.loop-p-test.false in
    (omega arith, omega arith, no_lines a.s.now (record { number = 1; at = 0; lines = 0; next = 0 }) (omega arith) ∙ sym (i.4 ∙ nowhere))
