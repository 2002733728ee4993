-- Line by line: the tally so far with the words that are left is that of all.
use mathlib.Core.Path.{refl, sym, ap, ◌∙◌}
use native.Mathlib.Omega.{arith}
use lib.ListN.{take, length-take, length-drop}
use Rattle.judging.specs.declared.lyrics.Tally.{Tally}
use Rattle.judging.specs.Lyrics.{tally_in}
use Rattle.judging.proofs.TallyLaws.{with_lines, with_sum, tally_more, tally_over}
use Rattle.judging.proofs.lyrics.tally_lyrics.Goals as goal

pub loop-at-init : goal.loop-at-init
loop-at-init c =
    let ws = c.args.words.now in
    let t = c.args.lines in
    let k = length-drop t.from (take t.to ws) in
    let n = length-take t.to ws in
    let size = c.requires.size in
    (omega arith, omega arith, c.requires.low, (λ h. omega arith), omega arith, omega arith, refl)

pub with_line-t-requires : goal.with_line-t-requires
with_line-t-requires c =
    let i = c.loop-at.invariant in
    let few = c.lyric_at-line.ensures.bounds.2 in
    (omega arith, omega arith, omega arith)

pub loop-at-preserved : goal.loop-at-preserved
loop-at-preserved c =
    let l = c.loop-at in
    let few = c.lyric_at-line.ensures.bounds.2 in
    let more = c.loop-at-test.true in
    let lines = ap (λ (t : Tally). t.lines) c.with_line-t.ensures ∙ with_lines l.t c.lyric_at-line.result.number c.lyric_at-line.result.count in
    let sum = ap (λ (t : Tally). t.sum) c.with_line-t.ensures ∙ with_sum l.t c.lyric_at-line.result.number c.lyric_at-line.result.count in
    let inside = l.invariant.3 (omega (arith, l.invariant.0)) in (
      omega (arith, l.invariant.0),
      omega arith,
      l.invariant.2,
      l.invariant.3,
      omega (arith, l.invariant.4),
      omega (arith, l.invariant.5),
      tally_more c.args.words.now c.args.lines.to l.at l.t more inside c.lyric_at-line.ensures.value c.with_line-t.ensures ∙ l.invariant.6,
    )

pub returns : goal.returns
unfolding tally_in
returns c =
    let l = c.loop-at in
    sym (tally_over c.args.words.now c.args.lines.to l.at l.t c.loop-at-test.false) ∙ l.invariant.6
