-- Three texts, one pen.
use Rattle.player.proofs.SectionLaws.{three_texts, fine_rounds}
use Rattle.player.specs.Walks.{row_of}
use Rattle.player.specs.Arrangements.{repeated_row}
use Rattle.player.proofs.playing.play_uncut.Goals as goal

pub rounds-requires-2 : goal.rounds-requires-2
rounds-requires-2 c =
    (fine_rounds _ _ _ _ _ c.rounds.ensures.played c.requires.0, c.requires.1)

pub rounds-requires-3 : goal.rounds-requires-3
rounds-requires-3 c =
    (fine_rounds _ _ _ _ _ c.rounds-2.ensures.played (fine_rounds _ _ _ _ _ c.rounds.ensures.played c.requires.0), c.requires.1)

pub returns-clause-played : goal.returns-clause-played
returns-clause-played c =
    let a = c.args in
    let x = a.a in
    let row = row_of x.n a.words.now in
    three_texts (row x.lead) (repeated_row a.words.now x) (row x.tail) _ _ _ _ c.rounds.ensures.played c.rounds-2.ensures.played
    c.rounds-3.ensures.played
