-- A part: the window of as many beats as its table holds.
use Rattle.player.proofs.SectionLaws.{plays_part, plays_left}
use Rattle.player.proofs.ShortLaws.{short_row}
use Rattle.player.specs.Walks.{row_of}
use Rattle.std.proofs.Common.{◌∙◌, arith, rules}
use Rattle.player.proofs.playing.play_part.Goals as goal

pub returns : goal.returns
returns c =
    let a = c.args in
    let x = a.a in
    let row = row_of x.n a.words.now in
    let short = short_row x.n a.words.now c.requires.0.countable.meter in
    let e = c.opening.ensures in
    plays_left _ _ _ _ _ _ _ _ _
    (plays_part x.front x.back x.repeat (row x.lead) (row x.pattern) (row x.tail) (short x.lead) (short x.pattern) (short x.tail)
    c.opening.result a.ms.now a.bs.now _ _ _ c.play_window.ensures.played
    a.from (omega (arith, c.requires.0.room)) (e.0, e.2, e.3 ∙ c.min.ensures))
    (search rules) (search rules)
