-- Word by word: from the state at hand the words that are left lead to where the whole stretch leads from the first state.
use Rattle.outlines.specs.Words.{look_up}
use Rattle.outlines.specs.Readings.{nested, words_read}
use lib.ListN.{drop}
use mathlib.Core.Path.{◌≡◌}
use Rattle.outlines.proofs.outlining.read_words.Given as goal

abbrev pub invariant-loop-w : goal.invariant-loop-w
invariant-loop-w l = words_read (look_up l.words) (nested l.s l.around) (drop l.w-index l.w-items)
    ≡ words_read (look_up l.words) (nested l.initial.s l.initial.around) l.w-items
