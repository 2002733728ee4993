-- The lines of a text: each goes on from the one before, behind a line end.
use Prim.Native.Nat.{ℕ, ◌+◌, ◌-◌}
use mathlib.Core.Path.{◌≡◌, subst}
use native.Mathlib.Omega.{arith}
use Rattle.std.proofs.lemmas.Result.{err_from_is_err_and}
use Rattle.sections.specs.Runs.{lines_of}
use Rattle.slips.proofs.TextReadLaws.{InText, text_start, text_stuck, text_more_line, text_ends_not, text_stops_later, text_none, text_over}
use Rattle.slips.proofs.patterns.read_lines.Goals as goal

pub returns-in_err-reading : goal.returns-in_err-reading
returns-in_err-reading c =
    let q = c.args in
    let l = c.line_at-first in
    let r = c.reading_from in
    let e = c.in_err-reading in
    let p = err_from_is_err_and c.from_residual.result c.from_residual.ensures.1 in
    λ m ms o. rw (p.1, p.2) (text_stuck q.s.now q.whose q.run l.result l.ensures m ms o r.result r.ensures e.field-0.0 e.ensures)

pub loop-line-init : goal.loop-line-init
loop-line-init c =
    let q = c.args in
    let l = c.line_at-first in
    let r = c.reading_from in
    let x = c.in_ok-reading in
    λ m ms o. text_start q.s.now q.whose q.run l.result l.ensures m ms o r.result r.ensures x.reading x.ensures

pub returns-then-s-at : goal.returns-then-s-at
returns-then-s-at c =
    let q = c.args in
    λ m ms o. text_over q.s.now q.whose (lines_of q.s.now q.run) (c.loop-line.invariant m ms o) c.if-s-at.true

pub returns-in_err-read_line_end : goal.returns-in_err-read_line_end
returns-in_err-read_line_end c =
    let q = c.args in
    let t = c.loop-line-test.true in
    let y = c.in_err-read_line_end in
    let r = c.from_residual-in_err-read_line_end in
    let p = err_from_is_err_and r.result r.ensures.1 in
    λ m ms o.
    rw (p.1, p.2)
    (text_ends_not q.s.now q.whose (lines_of q.s.now q.run) (c.loop-line.invariant m ms o) c.line_at-l.ensures c.if-s-at.false
    (λ k. let z : ⊥ = omega arith in z) y.field-0.0 y.ensures)

pub returns-in_err-reading-2 : goal.returns-in_err-reading-2
returns-in_err-reading-2 c =
    let q = c.args in
    let t = c.loop-line-test.true in
    let y = c.in_ok-read_line_end in
    let x = c.in_err-reading-2 in
    let r = c.from_residual-in_err-reading-2 in
    let p = err_from_is_err_and r.result r.ensures.1 in
    λ m ms o.
    rw (p.1, p.2)
    (text_stops_later q.s.now q.whose (lines_of q.s.now q.run) (c.loop-line.invariant m ms o) c.line_at-l.ensures c.if-s-at.false
    (λ k. let z : ⊥ = omega arith in z) y.field-0 y.ensures x.field-0.0 x.ensures)

pub loop-line-preserved : goal.loop-line-preserved
loop-line-preserved c =
    let q = c.args in
    let t = c.loop-line-test.true in
    let y = c.in_ok-read_line_end in
    let x = c.in_ok-reading-2 in
    let fewer : q.run.lines - c.loop-line._line - 1 ≡ q.run.lines - (c.loop-line._line + 1) = omega arith in
    λ m ms o.
    subst (λ (k : ℕ). InText q.s.now q.whose (lines_of q.s.now q.run) x.reading c.line_at-l.result.next k) fewer
    (text_more_line q.s.now q.whose (lines_of q.s.now q.run) (c.loop-line.invariant m ms o) c.line_at-l.ensures c.if-s-at.false
    (λ k. let z : ⊥ = omega arith in z) y.field-0 y.ensures x.reading x.ensures)

pub returns : goal.returns
returns c =
    let q = c.args in
    let t = c.loop-line-test.false in
    λ m ms o. text_none q.s.now q.whose (lines_of q.s.now q.run) (c.loop-line.invariant m ms o) (omega arith)
