-- A section: the window of all its beats.
use Rattle.player.proofs.SectionLaws.{plays_section, plays_left}
use Rattle.player.proofs.ShortLaws.{short_row}
use Rattle.player.specs.Walks.{row_of}
use Rattle.std.proofs.Common.{rules}
use Rattle.player.proofs.playing.play_section.Goals as goal

pub returns : goal.returns
returns c =
    let a = c.args in
    let x = a.a in
    let row = row_of x.n a.words.now in
    let short = short_row x.n a.words.now c.requires.countable.meter in
    let e = c.opening.ensures in
    plays_left _ _ _ _ _ _ _ _ _
    (plays_section x.front x.back x.repeat (row x.lead) (row x.pattern) (row x.tail) (short x.lead) (short x.pattern) (short x.tail)
    c.opening.result a.ms.now a.bs.now _ _ _ c.play_window.ensures.played
    a.base c.requires.room (e.0, e.2, e.3))
    (search rules) (search rules)
