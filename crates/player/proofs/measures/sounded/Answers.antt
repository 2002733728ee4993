-- One measure: passed over, or written and closed.
use Rattle.player.proofs.PageLaws.{measure_none, measure_some, measure_pass, measured, not_none, fine_begun, inked_from}
use Rattle.player.proofs.BarLaws.{bar_length}
use Rattle.player.specs.Page.{rest_of, page, shown}
use Rattle.player.specs.Bars.{beats_of}
use Rattle.player.specs.declared.pens.Pen.{Pen}
use Rattle.std.proofs.Common.{ap, ◌∙◌, arith}
use Rattle.player.proofs.measures.sounded.Goals as goal

pub returns-then-p-eq0-clause-played : goal.returns-then-p-eq0-clause-played
returns-then-p-eq0-clause-played c = measure_none _ (shown c.args.page.now) c.if-p-eq0.true

pub begun-requires : goal.begun-requires
begun-requires c = not_none c.if-p-eq0.false

pub returns-then-beats-p-clause-played : goal.returns-then-beats-p-clause-played
returns-then-beats-p-clause-played c =
    let a = c.args in
    let g = a.page.now in
    let e = bar_length a.bar c.requires.1 in
    ap (λ (r : Pen). page r g.measures.now g.beats.now) (c.resting-page.ensures ∙ ap (λ (p : Pen). rest_of p) c.begun.ensures)
    ∙ measure_pass (beats_of a.bar) g.pen _ g.measures.now g.beats.now
    c.if-p-eq0.false e c.if-beats-p.true

pub begun-requires-2 : goal.begun-requires-2
begun-requires-2 c = not_none c.if-p-eq0.false

pub played-q-requires : goal.played-q-requires
played-q-requires c =
    (fine_begun c.args.page.now.pen _ _ _ c.begun-2.ensures c.requires.0, c.requires.1)

pub close-requires : goal.close-requires
close-requires c =
    let a = c.args in
    let e = bar_length a.bar c.requires.1 in
    let o = inked_from (beats_of a.bar) _ _ _ _ _ c.begun-2.ensures
    c.played-q.ensures in
    measured (beats_of a.bar) _ _ _ _ (record { few = c.requires.0.few; fits = c.requires.0.fits }) (omega (arith, e, c.requires.1.few)) o

pub returns-clause-played : goal.returns-clause-played
returns-clause-played c =
    let a = c.args in
    let g = a.page.now in
    let o = inked_from (beats_of a.bar) _ _ _ _ _
    c.begun-2.ensures
    c.played-q.ensures in
    rw c.resting-page-2.ensures
    (measure_some (beats_of a.bar) g.pen _ _ g.measures.now _ g.beats.now _
    c.if-p-eq0.false o
    (c.close.ensures _))
