-- The words that are kept stand behind their mark, and to check them word by word is to check the line's text.
use mathlib.Core.Path.{◌∙◌}
use Rattle.grammar.proofs.KeptLaws.{kept_text}
use Rattle.grammar.proofs.kept.check_kept.Goals as goal

pub returns : goal.returns
returns c =
    let a = c.args in
    let text = kept_text a.c a.s.now a.words.now a.from a.to c.requires.0 c.requires.1 c.requires.2 c.requires.3 in record {
      check = c.check_words.ensures ∙ rw (c.keep_line-count.ensures.held, c.keep_line-count.ensures.count.0) text;
      held = c.keep_line-count.ensures.held;
    }
