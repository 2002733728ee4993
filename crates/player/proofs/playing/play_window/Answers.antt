-- Cuts that take nothing, and others.
use Rattle.player.proofs.SectionLaws.{wrote_uncut}
use Rattle.player.specs.Walks.{row_of}
use Rattle.std.proofs.Common.{arith}
use Rattle.player.proofs.playing.play_window.Goals as goal

pub returns-then-is_uncut-clause-played : goal.returns-then-is_uncut-clause-played
returns-then-is_uncut-clause-played c =
    let a = c.args in
    let x = a.a in
    let row = row_of x.n a.words.now in
    let pen = c.requires.1 in
    let w =
    wrote_uncut x.front x.back x.repeat (row x.lead) (row x.pattern) (row x.tail) a.page.now.pen _ a.page.now.measures.now a.page.now.beats.now _ _
    (c.is_uncut.ensures c.if-is_uncut.true) (pen.todo, pen.measures, pen.beats) (omega (arith, c.requires.0.room))
    c.play_uncut.ensures.played in
    record { measures = w.measures; beats = w.beats; measure_table = w.measure_table; beat_table = w.beat_table }
