-- Three texts, each with its pen, on one page.
use Rattle.player.proofs.SectionLaws.{skip_fits, wrote_window, fine_rounds, opening_fine, fine_pattern, fine_tail, AtPattern, AtTail}
use Rattle.player.proofs.ShortLaws.{short_times, short_row}
use Rattle.player.specs.Walks.{row_of}
use Rattle.songcode.specs.Lists.{times}
use Rattle.std.proofs.Common.{arith}
use Rattle.player.proofs.playing.play_cut.Goals as goal

pub at_pattern-page-requires : goal.at_pattern-page-requires
at_pattern-page-requires c =
    let a = c.args in
    let x = a.a in
    let ws = a.words.now in
    let lead = row_of x.n ws x.lead in
    let row = row_of x.n ws x.pattern in
    let tail = row_of x.n ws x.tail in
    let pen = c.requires.1 in
    skip_fits x.front x.back x.repeat lead row tail c.planned-plan.result
    (c.planned-plan.ensures.todo, c.planned-plan.ensures.skip, c.planned-plan.ensures.left) a.page.now.pen c.rounds.new.page.pen a.page.now.measures.now
    a.page.now.beats.now _ _
    (pen.todo, pen.measures, pen.beats) (omega (arith, c.requires.0.room)) c.rounds.ensures.played c.requires.0.countable.cuts
    (short_times x.repeat row (short_row x.n ws c.requires.0.countable.meter x.pattern)) c.requires.0.countable.measures pen.skip

pub rounds-requires-2 : goal.rounds-requires-2
rounds-requires-2 c =
    let at : AtPattern c.planned-plan.result c.rounds.new.page.pen c.at_pattern-page.result =
    (c.at_pattern-page.ensures.numbers, (c.at_pattern-page.ensures.skip, (c.at_pattern-page.ensures.left, c.at_pattern-page.ensures.todo))) in
    let a = c.args in
    let x = a.a in
    let lead = row_of x.n a.words.now x.lead in
    let pen = c.requires.1 in (
      fine_pattern _ _ _ (fine_rounds (times 1 lead) _ _ _ _ c.rounds.ensures.played
          (opening_fine _ pen)) at,
      c.requires.0.countable.meter,
    )

pub rounds-requires-3 : goal.rounds-requires-3
rounds-requires-3 c =
    let at : AtPattern c.planned-plan.result c.rounds.new.page.pen c.at_pattern-page.result =
    (c.at_pattern-page.ensures.numbers, (c.at_pattern-page.ensures.skip, (c.at_pattern-page.ensures.left, c.at_pattern-page.ensures.todo))) in
    let behind : AtTail c.planned-plan.result c.rounds.new.page.pen c.rounds-2.new.page.pen c.at_tail-page.result =
    (c.at_tail-page.ensures.numbers, (c.at_tail-page.ensures.skip, (c.at_tail-page.ensures.left, c.at_tail-page.ensures.todo))) in
    let a = c.args in
    let x = a.a in
    let ws = a.words.now in
    let lead = row_of x.n ws x.lead in
    let row = row_of x.n ws x.pattern in
    let tail = row_of x.n ws x.tail in
    let pen = c.requires.1 in
    let f = fine_rounds (times 1 lead) _ _ _ _ c.rounds.ensures.played (opening_fine _ pen) in (
      fine_tail _ (times x.repeat row) _ _ _ _ _ _ _ _ f at c.rounds-2.ensures.played behind,
      c.requires.0.countable.meter,
    )

pub returns-clause-played : goal.returns-clause-played
returns-clause-played c =
    let at : AtPattern c.planned-plan.result c.rounds.new.page.pen c.at_pattern-page.result =
    (c.at_pattern-page.ensures.numbers, (c.at_pattern-page.ensures.skip, (c.at_pattern-page.ensures.left, c.at_pattern-page.ensures.todo))) in
    let behind : AtTail c.planned-plan.result c.rounds.new.page.pen c.rounds-2.new.page.pen c.at_tail-page.result =
    (c.at_tail-page.ensures.numbers, (c.at_tail-page.ensures.skip, (c.at_tail-page.ensures.left, c.at_tail-page.ensures.todo))) in
    let a = c.args in
    let x = a.a in
    let ws = a.words.now in
    let lead = row_of x.n ws x.lead in
    let row = row_of x.n ws x.pattern in
    let tail = row_of x.n ws x.tail in
    let pen = c.requires.1 in
    let w =
    wrote_window x.front x.back x.repeat lead row tail c.planned-plan.result
    (c.planned-plan.ensures.todo, c.planned-plan.ensures.skip, c.planned-plan.ensures.left) a.page.now.pen c.rounds.new.page.pen a.page.now.measures.now
    a.page.now.beats.now _ _
    (pen.todo, pen.measures, pen.beats) (omega (arith, c.requires.0.room)) c.rounds.ensures.played
    _ _ _ _ _ _ _ _ at c.rounds-2.ensures.played behind c.rounds-3.ensures.played in
    record { measures = w.measures; beats = w.beats; measure_table = w.measure_table; beat_table = w.beat_table }
