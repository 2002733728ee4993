-- The answer to a chart by what the stages give, and whether a lent table is too short for it.
use Rattle.std.specs.Prelude.{ℕ, Bool, ◌||◌, ltb, Result, Ok, Err}
use Rattle.songcode.specs.Answer.Answer as songcode
use Rattle.refusals.specs.declared.Refusal.{Refusal}
use Rattle.refusals.specs.Names.{number_of}
use Rattle.judging.specs.declared.sums.Totals.{Totals}
use Rattle.reader.specs.declared.answers.Answer.{Answer}
use Rattle.reader.specs.declared.answers.Room.{Room}

abbrev pub room_is : Room → songcode.Room
room_is r = record { keys = r.keys; sections = r.sections; measures = r.measures; beats = r.beats; items = r.items }

abbrev pub refused_with : ℕ → ℕ → Answer
refused_with number line = record { refusal = number; line = line; sections = 0; measures = 0; beats = 0; items = 0 }

abbrev pub accepted_with : Totals → Answer
accepted_with t = record { refusal = 0; line = 0; sections = t.sections; measures = t.measures; beats = t.beats; items = t.items }

abbrev pub answered_by : Result Totals Refusal → Answer
answered_by (Ok t) = accepted_with t
answered_by (Err e) = refused_with (number_of e.why) e.line

-- A table that is too short for a song of these counts.
abbrev pub is_short : Totals → Room → Bool
is_short t r =
    ltb r.keys 8 || ltb r.sections t.sections || ltb r.measures t.measures || ltb r.beats t.beats || ltb r.items t.items
