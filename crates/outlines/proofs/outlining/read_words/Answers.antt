-- Word by word: from the state at hand the words that are left lead to where the whole stretch leads from the first state.
use Rattle.std.proofs.Common.{sym, ap, ◌∙◌, drop, ◌+◌}
use Rattle.std.proofs.lemmas.List.{at_drop_more, at_drop_all}
use Rattle.outlines.specs.Words.{look_up}
use Rattle.outlines.specs.Readings.{Nested, nested, words_read}
use Rattle.outlines.proofs.outlining.read_words.Goals as goal

pub loop-w-preserved : goal.loop-w-preserved
unfolding words_read
loop-w-preserved c =
    let find = look_up c.args.words.now in
    let ws = c.words-w-items.result.now in
    let l = c.loop-w in
    ap (λ (s : Nested). words_read find s (drop (l.w-index + 1) ws)) c.follow-s.ensures
    ∙ sym (at_drop_more (words_read find (nested l.s l.around)) ws l.w-index 0 c.loop-w-test.true) ∙ l.invariant

pub returns : goal.returns
unfolding words_read
returns c =
    let find = look_up c.args.words.now in
    let ws = c.words-w-items.result.now in
    let l = c.loop-w in
    ap (λ (s : Nested). s.reading) (sym (at_drop_all (words_read find (nested l.s l.around)) ws l.w-index c.loop-w-test.false) ∙ l.invariant
    ∙ ap (words_read find (nested c.args.first c.args.around.now)) c.words-w-items.ensures)
