-- Word by word: the faults so far, read on over the words that are left, are those of the whole stretch.
use Rattle.outlines.specs.Words.{look_up, is_missing}
use Rattle.outlines.specs.Faults.{faultless, all_faults}
use lib.ListN.{drop}
use mathlib.Core.Path.{◌≡◌}
use Rattle.outlines.proofs.faults.reference_fault.Given as goal

abbrev pub invariant-loop-w : goal.invariant-loop-w
invariant-loop-w l = all_faults (is_missing l.words) (look_up l.words) l.f (drop l.w-index l.w-items)
    ≡ all_faults (is_missing l.words) (look_up l.words) faultless l.w-items
