-- Word by word: the check so far, with the words that are left, ends as the check with all words does.
use mathlib.Core.Path.{◌≡◌}
use lib.ListN.{drop}
use Rattle.text.specs.Spans.{part}
use Rattle.grammar.specs.Checks.{check_words}
use Rattle.grammar.proofs.kept.check_words.Given as goal

abbrev pub invariant-loop-word : goal.invariant-loop-word
invariant-loop-word l = check_words l.check (drop l.word-index (part l.from l.to l.words)) ≡ check_words l.fn.c (part l.from l.to l.words)
