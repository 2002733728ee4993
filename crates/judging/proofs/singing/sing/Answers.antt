-- What was tallied and counted is known as the definitions say it, so the room demanded for these is room for what is added.

use Rattle.judging.proofs.singing.sing.Goals as goal

pub sung_with-requires : goal.sung_with-requires
sung_with-requires c =
    rw (c.counts_of-c.ensures, c.tally_lyrics-t.ensures) c.requires.sums

pub returns : goal.returns
returns c = rw (← c.counts_of-c.ensures, ← c.tally_lyrics-t.ensures) c.sung_with.ensures
