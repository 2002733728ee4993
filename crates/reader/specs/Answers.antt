-- The answer of the call, and the final content of the tables: written where the song is accepted, as they were where it is refused.
use Rattle.std.specs.Prelude.{ℕ, ◌≡◌, List, length}
use Rattle.std.proofs.lemmas.List.Edits.{sets}
use Rattle.songcode.specs.Answer.Answer as songcode
use Rattle.songcode.specs.Answer.Answer.{refused, accepted}
use Rattle.reader.specs.declared.answers.Answer.{Answer}

-- "The result gives refusal 0, line 0 and the counts of sections, measures, beats and items"; "A refusal returns its number and line, counts 0".
unfoldable pub answer_of : songcode.Answer → Answer
answer_of (refused number line) = record { refusal = number; line = line; sections = 0; measures = 0; beats = 0; items = 0 }
answer_of (accepted t) =
    record { refusal = 0; line = 0; sections = length t.sections; measures = length t.measures; beats = length t.beats; items = length t.items }

-- The five lent tables, and how many words each has.
pub record Lent : Type 0 where
  pub keys : List ℕ
  pub sections : List ℕ
  pub measures : List ℕ
  pub beats : List ℕ
  pub items : List ℕ

abbrev pub lent : List ℕ → List ℕ → List ℕ → List ℕ → List ℕ → Lent
lent k s m b i = record { keys = k; sections = s; measures = m; beats = b; items = i }

unfoldable pub room_of : Lent → songcode.Room
room_of l =
    record { keys = length l.keys; sections = length l.sections; measures = length l.measures; beats = length l.beats; items = length l.items }

-- "and no table word changes"; where the song is accepted, its words stand in each table. "Lent memory past what a call writes keeps what it held":
-- `sets old 0 new` holds the new words from its first place on, and behind them what it held.
unfoldable pub stored : songcode.Answer → Lent → Lent
stored (refused number line) old = old
stored (accepted t) old =
    record {
      keys = sets old.keys 0 t.keys;
      sections = sets old.sections 0 t.sections;
      measures = sets old.measures 0 t.measures;
      beats = sets old.beats 0 t.beats;
      items = sets old.items 0 t.items;
    }

-- The promise of the call: its answer and the final content of all lent memory, for every text and all tables.
pub record Promised (text : List ℕ) (before : Lent) (r : Answer) (after : Lent) : Type 0 where
  pub answer : r ≡ answer_of (songcode.answer (room_of before) text)
  pub tables : after ≡ stored (songcode.answer (room_of before) text) before

-- The promise of the call without tables: refused by stages 1 to 7, or the counts of the song's own tables, whatever their size.
pub record Counted (text : List ℕ) (r : Answer) : Type 0 where
  pub answer : r ≡ answer_of (songcode.song_answer text)
