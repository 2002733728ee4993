-- The answers of the calls as numbers in a row; and what the calls promise.
use Rattle.std.specs.Prelude.{ℕ, ◌≡◌, List, length, get_or, ℤ, Option, Some, None, unwrap_or}
use Rattle.std.specs.Result.{result_unwrap_or}
use Rattle.songcode.specs.Answer.Finding.{jump_to}
use Rattle.reader.specs.declared.answers.Answer.{Answer}
use Rattle.reader.specs.Answers.{Lent, Promised, Counted}
use Rattle.explain.specs.declared.Explained.{Explained}
use Rattle.explain.specs.Explained.{Explains}
use Rattle.refusals.specs.declared.names.Why.{Why}
use Rattle.refusals.specs.Names.{number_of}
use Rattle.seek.specs.declared.Found.{Found}
use Rattle.seek.specs.Answers.{found_of, refused}
use Rattle.flat.specs.Answers.{Copied}
use Rattle.flat.specs.Answers.{Flattened}
use Rattle.cues.specs.Cues as light_cues
use Rattle.cues.specs.Answers.{lit_by, cues_by}
use Rattle.concert.specs.Moves as concert_pitch
use Rattle.concert.specs.Promises.{second_table}

-- What is refused, as the number that a call returns: 0 where nothing is.
abbrev pub refusal_number : Option Why → ℕ
refusal_number None = 0
refusal_number (Some why) = number_of why

-- Refusal, line, and the counts of sections, measures, beats and items.
unfoldable pub answer_in : List ℕ → Answer
answer_in xs =
    record { refusal = get_or xs 0 0; line = get_or xs 1 0; sections = get_or xs 2 0; measures = get_or xs 3 0; beats = get_or xs 4 0; items = get_or xs 5 0 }

-- Refusal, place and probes.
pub record FoundNumbers : Type 0 where
  pub refusal : ℕ
  pub place : ℕ
  pub probes : ℕ

unfoldable pub found_in : List ℕ → FoundNumbers
found_in xs = record { refusal = get_or xs 0 0; place = get_or xs 1 0; probes = get_or xs 2 0 }

-- Place 0 where no record holds the beat.
unfoldable pub found_told : Found → FoundNumbers
found_told f = record { refusal = refusal_number (refused f.place); place = unwrap_or f.place 0; probes = f.probes }

-- A chart read: the refusal of the answer is returned, and answer and tables are as promised. "Lent memory past what a call writes keeps what it held":
-- `Promised`, `Flattened` and `cues_by` say so with `sets`: from the first place on the new words, behind them what memory held.
pub record ReadsChart (text : List ℕ) (before : Lent) (refusal : ℕ) (answer : List ℕ) (after : Lent) : Type 0 where
  pub returned : refusal ≡ (answer_in answer).refusal
  pub promised : Promised text before (answer_in answer) after

-- A chart counted.
pub record CountsChart (text : List ℕ) (refusal : ℕ) (answer : List ℕ) : Type 0 where
  pub given : refusal ≡ (answer_in answer).refusal
  pub counted : Counted text (answer_in answer)

-- A beat found: the refusal is returned, and the three numbers are those of the halving rule.
pub record FindsBeat (measures : List ℕ) (beat : ℕ) (refusal : ℕ) (found : List ℕ) : Type 0 where
  pub refused : refusal ≡ (found_in found).refusal
  pub halved : found_in found ≡ found_told (found_of (jump_to beat measures))

-- The cues of three tables: the refusal that is returned, the song's end or 0, and every word of the cue table.
pub record LightsCues (sections measures before : List ℕ) (refusal end : ℕ) (after : List ℕ) : Type 0 where
  pub refused : refusal ≡ refusal_number (light_cues.refusal_of sections measures (length before))
  pub lit : end ≡ result_unwrap_or (lit_by (light_cues.refusal_of sections measures (length before)) sections measures) 0
  pub cues : after ≡ cues_by (light_cues.refusal_of sections measures (length before)) sections measures before

-- A beat table moved: the refusal that is returned, and every word of the second table.
pub record Moves (move : ℤ) (beats before : List ℕ) (refusal : ℕ) (after : List ℕ) : Type 0 where
  pub refused : refusal ≡ refusal_number (concert_pitch.refusal_of move beats (length before))
  pub second : after ≡ second_table move beats before

-- Refusal, line and cause; the line, the first byte and the length of the place; one more line; three numbers.
unfoldable pub explained_in : List ℕ → Explained
explained_in xs =
    record {
      refusal = get_or xs 0 0;
      line = get_or xs 1 0;
      cause = get_or xs 2 0;
      place = record { line = get_or xs 3 0; offset = get_or xs 4 0; length = get_or xs 5 0 };
      other = get_or xs 6 0;
      first = get_or xs 7 0;
      second = get_or xs 8 0;
      third = get_or xs 9 0;
    }

-- A chart explained.
pub record ExplainsChart (text : List ℕ) (refusal : ℕ) (cause : List ℕ) : Type 0 where
  pub told : refusal ≡ (explained_in cause).refusal
  pub explained : Explains text (explained_in cause)

-- Refusal, line, and the length of the copy.
unfoldable pub copied_in : List ℕ → Copied
copied_in xs = record { refusal = get_or xs 0 0; line = get_or xs 1 0; length = get_or xs 2 0 }

-- A chart copied flat: the refusal is returned, and the three numbers and the buffer are as promised.
pub record CopiesChart (text before : List ℕ) (refusal : ℕ) (copied after : List ℕ) : Type 0 where
  pub handed : refusal ≡ (copied_in copied).refusal
  pub flattened : Flattened text before (copied_in copied) after
