-- All words of the row are 0 and so no marks, and the row has the room that is asked for.
use lib.ListN.{length-replicate}
use Rattle.tokens.proofs.KeptLaws.{unmarked_zeros}
use Rattle.reader.proofs.counting.count_with_row.Goals as goal

pub count_in-requires : goal.count_in-requires
count_in-requires g c = (λ k. simp length-replicate (c.requires.0 k), unmarked_zeros _)
