-- The arrangement is made and counted.
use mathlib.Core.Path.{refl}
use Rattle.judging.specs.Sums.{row_of_texts, counts_of}
use Rattle.judging.proofs.sums.counts_of.Goals as goal

pub returns : goal.returns
unfolding row_of_texts counts_of
returns c = let e = rw c.arrangement.ensures at c.count_section.ensures in rw (← e.0, ← e.1) refl

pub count_section-requires : goal.count_section-requires
count_section-requires c = rw c.arrangement.ensures c.requires
