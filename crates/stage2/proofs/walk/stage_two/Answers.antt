-- The loop over the lines: the least of what was complained of and of what is still to come stays the same.
use Rattle.stage2.proofs.WalkReturns.{heads_fit, one_line, no_line, all_le, refused, marks_first, marks_next, marks_last}
use Rattle.stage2.proofs.StateLaws.{starts}
use Rattle.stage2.specs.Walk.{at_first}
use native.Mathlib.Omega.{arith}
use mathlib.Core.Path.{◌∙◌}
use borrow.Author.Rules.{rules}
use Rattle.stage2.proofs.walk.stage_two.Goals as goal

pub loop-at-init : goal.loop-at-init
loop-at-init c = let s = c.args.s.now in
    let h = all_le s in
    (omega arith, omega arith, omega arith, marks_first s c.args.words.now c.requires.2, at_first, rw c.first_state-c.ensures starts, omega arith)

pub judge_line-j-requires : goal.judge_line-j-requires
judge_line-j-requires c = let m = c.loop-at.invariant.3.same in
    search rules

pub slice_bounds-note_head-end : goal.slice_bounds-note_head-end
slice_bounds-note_head-end c = let q = c.loop-at in
    let h = heads_fit q.invariant.4 q.c q.ids q.invariant.5 in
    search rules

pub note_head-six-requires : goal.note_head-six-requires
note_head-six-requires c = let q = c.loop-at in
    let h = heads_fit q.invariant.4 q.c q.ids q.invariant.5 in
    search rules

pub loop-at-preserved : goal.loop-at-preserved
loop-at-preserved c = let l = c.line_at-l in
    let s = c.args.s.now in
    let i = c.loop-at.invariant in
    let there = c.loop-at-test.true in
    let one = one_line s i.4 c.loop-at.c c.loop-at.ids c.loop-at.n c.loop-at.at i.5 l.result c.judge_line-j.result c.note_head-six.result
    c.loop-at.best _ there l.ensures c.judge_line-j.ensures.value c.note_head-six.ensures.0 c.note_head-six.ensures.1 i.2 in
    let marks = marks_next s c.args.words.now c.loop-at.words c.loop-at.at i.3 c.requires.1 c.loop-at.n l.result _ c.requires.0 there
    l.ensures c.judge_line-j.ensures.keeps in
    (omega arith, omega arith, omega arith, marks, one.0, one.1, rw (c.min-best.ensures, c.min.ensures) one.2 ∙ i.6)

pub returns : goal.returns
returns c = let s = c.args.s.now in
    let i = c.loop-at.invariant in
    let over = no_line s i.4 c.loop-at.c c.loop-at.ids c.loop-at.n c.loop-at.at i.5 c.loop-at-test.false in record {
      value = refused s c.min-2.result c.refusal_of.result c.requires.0 (omega arith) c.refusal_of.ensures;
      kept = marks_last s c.args.words.now c.loop-at.words c.loop-at.at i.3 c.requires.1;
    }
