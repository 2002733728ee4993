-- A stage refuses, or the room is too small, and no table is written; or all tables are: each is the answer that is promised.
use mathlib.Core.Path.{sym, ◌∙◌}
use Rattle.songcode.specs.Answer.Answer.{song_of}
use Rattle.songcode.specs.Answer.Tables.{tables}
use Rattle.songcode.proofs.SongAlone.{accepted_with_room}
use Rattle.judging.proofs.VerdictLaws.{early_refused, late_refused}
use Rattle.reader.specs.Answers.{lent, room_of}
use Rattle.reader.proofs.AnswerLaws.{short_answer, long_answer, long_counts, keys_room, promised_early, promised_short, promised_accepted}
use Rattle.reader.proofs.reading.stored.Goals as goal

pub returns-in_err-first_stages : goal.returns-in_err-first_stages
returns-in_err-first_stages c =
    let bs = c.args.text.now in
    promised_early bs _ _ _ c.from_residual.ensures.1 (early_refused bs _ c.in_err-first_stages.ensures)

pub returns-in_err-chart : goal.returns-in_err-chart
returns-in_err-chart c =
    let bs = c.args.text.now in
    let clear = c.in_ok-first_stages.ensures in
    promised_early bs _ _ _ c.from_residual-in_err-chart.ensures.1 (late_refused bs clear.0 clear.1 _ c.in_err-chart.ensures)

pub returns-then-is_short : goal.returns-then-is_short
unfolding room_of
returns-then-is_short c =
    let a = c.args in
    let clear = c.in_ok-first_stages.ensures in
    promised_short a.text.now (lent a.keys.now a.sections.now a.measures.now a.beats.now a.items.now)
    (short_answer a.text.now _ c.in_ok-chart.chart clear.0 clear.1 c.in_ok-chart.ensures _ (sym c.is_short.ensures ∙ c.if-is_short.true))

pub write_tables-requires : goal.write_tables-requires
unfolding room_of
write_tables-requires c =
    let a = c.args in
    let bs = a.text.now in
    let clear = c.in_ok-first_stages.ensures in
    let room = room_of (lent a.keys.now a.sections.now a.measures.now a.beats.now a.items.now) in
    let song = long_answer bs _ c.in_ok-chart.chart clear.0 clear.1 c.in_ok-chart.ensures _ (sym c.is_short.ensures ∙ c.if-is_short.false) in
    let has = ((accepted_with_room room bs (tables (song_of bs))).0 song).1 in record {
      chart = c.in_ok-chart.ensures;
      room = (keys_room room (song_of bs) has, record { sections = has.sections; measures = has.measures; beats = has.beats; items = has.items });
    }

pub returns : goal.returns
unfolding room_of
returns c =
    let a = c.args in
    let bs = a.text.now in
    let clear = c.in_ok-first_stages.ensures in
    let long = sym c.is_short.ensures ∙ c.if-is_short.false in
    let written = c.write_tables.ensures in
    promised_accepted bs (lent a.keys.now a.sections.now a.measures.now a.beats.now a.items.now) _ (tables (song_of bs)) _
    (long_counts bs _ c.in_ok-chart.chart clear.0 clear.1 c.in_ok-chart.ensures _ long)
    (long_answer bs _ c.in_ok-chart.chart clear.0 clear.1 c.in_ok-chart.ensures _ long)
    written.keys written.sections written.measures written.beats written.items
