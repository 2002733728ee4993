-- The verdict is the reader's: an accepted chart has no place, a refused one is explained.
use native.Mathlib.Omega.{arith}
use Rattle.tokens.proofs.KeptLaws.{unmarked_zeros}
use Rattle.explain.proofs.explain.Goals as goal

pub count_in-requires : goal.count_in-requires
count_in-requires c = ((λ k. omega arith), unmarked_zeros 65552)
