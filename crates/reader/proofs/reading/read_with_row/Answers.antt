-- All words of the row are 0 and so no marks, and the row has the room that is asked for.
use lib.ListN.{length-replicate}
use Rattle.tokens.proofs.KeptLaws.{unmarked_zeros}
use Rattle.reader.proofs.reading.read_with_row.Goals as goal

pub stored-requires : goal.stored-requires
stored-requires g c = (λ k. simp length-replicate (c.requires.0 k), unmarked_zeros _)
