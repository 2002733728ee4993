-- The pen's numbers are those of the text.
use Rattle.player.specs.Walks.{row_of}
use Rattle.player.proofs.ShortLaws.{short_row}
use Rattle.player.proofs.CountingLaws.{counted_text}
use Rattle.player.proofs.counting.count_text.Goals as goal

pub returns : goal.returns
returns c =
    let a = c.args in
    let ws = a.words.now in
    let t = counted_text (row_of a.n ws a.s) _ _ _ _ _ _ c.opening.ensures (short_row a.n ws c.requires.0 a.s) c.requires.1 c.rounds.ensures.played in record {
      measures = t.0;
      beats = t.1;
      bound = (t.2, t.3);
    }
