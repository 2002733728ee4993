-- Word by word: the check so far, with the words that are left, ends as the check with all words does.
use Prim.Native.Nat.{◌+◌}
use mathlib.Core.Path.{sym, ap, ◌∙◌}
use lib.ListN.{drop}
use Rattle.text.specs.Spans.{part}
use Rattle.grammar.specs.declared.checks.Check.{Check}
use Rattle.grammar.specs.Checks.{check_words}
use Rattle.grammar.proofs.KeptLaws.{words_more, words_over}
use Rattle.grammar.proofs.kept.check_words.Goals as goal

pub loop-word-preserved : goal.loop-word-preserved
loop-word-preserved c =
    let ws = part c.args.from c.args.to c.args.words.now in
    let l = c.loop-word in
    let more = words_more l.check ws l.word-index c.loop-word-test.true in
    ap (λ (d : Check). check_words d (drop (l.word-index + 1) ws)) c.step_check-check.ensures ∙ (sym more ∙ l.invariant)

pub returns : goal.returns
returns c =
    let ws = part c.args.from c.args.to c.args.words.now in
    let l = c.loop-word in
    sym (words_over l.check ws l.word-index c.loop-word-test.false) ∙ l.invariant
