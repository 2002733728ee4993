-- Line by line: the last count so far with the words that are left is that of all.
use mathlib.Core.Path.{refl, sym, ◌∙◌}
use native.Mathlib.Omega.{arith}
use lib.ListN.{take, length-take, length-drop}
use Rattle.judging.specs.Counts.{later_in}
use Rattle.judging.proofs.LastCountLaws.{later_more, later_over}
use Rattle.judging.proofs.counts.later_in.Goals as goal

pub loop-at-init : goal.loop-at-init
loop-at-init c =
    let ws = c.args.words.now in
    let t = c.args.lines in
    let k = length-drop t.from (take t.to ws) in
    let n = length-take t.to ws in
    let size = c.requires.size in
    (omega arith, omega arith, c.requires.low, (λ h. omega arith), refl)

pub loop-at-preserved : goal.loop-at-preserved
loop-at-preserved c =
    let l = c.loop-at in
    let more = c.loop-at-test.true in
    let inside = l.invariant.3 (omega (arith, l.invariant.0)) in (
      omega (arith, l.invariant.0),
      omega arith,
      l.invariant.2,
      l.invariant.3,
      later_more c.args.words.now c.args.lines.to l.at l.last more inside c.lyric_at.ensures.value c.later_of-last.ensures ∙ l.invariant.4,
    )

pub returns : goal.returns
unfolding later_in
returns c =
    let l = c.loop-at in
    sym (later_over c.args.words.now c.args.lines.to l.at l.last c.loop-at-test.false) ∙ l.invariant.4
