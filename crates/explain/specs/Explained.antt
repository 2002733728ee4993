-- What is promised of every text: the reader's verdict, a cause that belongs to it, and a place on the line that it names.
use Rattle.std.specs.Prelude.{ℕ, ◌+◌, ◌≡◌, List}
use Rattle.songcode.specs.Answer.Answer.{song_answer}
use Rattle.refusals.specs.declared.Refusal.{Refusal}
use Rattle.refusals.specs.Names.{number_of}
use Rattle.reader.specs.Answers.{answer_of}
use Rattle.reader.specs.Room.{refused_with}
use Rattle.text.specs.declared.lines.Line.{Line}
use Rattle.slips.specs.Places.{OnLine}
use Rattle.slips.specs.Finds.{LineOf, NameOn, BareOn}
use Rattle.explain.specs.declared.Explained.{Explained}
use Rattle.explain.specs.Causes.{Belongs, clause_of_cause}
use Rattle.explain.specs.Stopped.{Stopped}
use Rattle.explain.specs.MisfitNamed.{MisfitNamed}
use Rattle.explain.specs.StrayNamed.{StrayNamed}
use Rattle.explain.specs.Sums.{SumNamed}

-- The place stands on the line that the verdict names: bytes of it that pass a test, which is told the clause, the first byte and the end.
pub record OnVerdict (text : List ℕ) (r : Explained) (test : Line → ℕ → ℕ → ℕ → Type 0) : Type 0 where
  pub verdict : Line
  pub listed : LineOf text r.line verdict
  pub same : r.place.line ≡ r.line
  pub found : test verdict (clause_of_cause r.cause) r.place.offset (r.place.offset + r.place.length)

-- The reader's verdict is this refusal.
abbrev pub Verdict : List ℕ → Refusal → Type 0
Verdict text e = refused_with (number_of e.why) e.line ≡ answer_of (song_answer text)

pub record Explains (text : List ℕ) (r : Explained) : Type 0 where
  -- "A refusal returns its number and line": those of the reader.
  pub refusal : r.refusal ≡ (answer_of (song_answer text)).refusal
  pub line : r.line ≡ (answer_of (song_answer text)).line
  pub belongs : Belongs r.refusal r.cause
  -- Where the verdict names no line there is no place; where it names one, the place lies in the text and on its own line.
  pub nowhere : r.line ≡ 0 → (r.place.line ≡ 0) × (r.place.offset ≡ 0) × (r.place.length ≡ 0)
  pub placed : (r.line ≡ 0 → ⊥) → OnLine text r.place
  -- "and for 7 ... the place is the first at which the definition fails": the text that the verdict names is not right, and the place is that of the token
  -- with which no right text goes on, or its end where it is not whole.
  pub stopped : r.refusal ≡ 7 → Stopped text r
  -- "and for ... 12 ... the place is the first at which the definition fails", with "positions and N".
  pub misfit : r.refusal ≡ 12 → MisfitNamed text r
  -- "and for ... 13 ... the place is the first at which the definition fails".
  pub stray : r.refusal ≡ 13 → StrayNamed text r
  -- "and for ... 16 and 17 the place is the first at which the definition fails": on the first taken lyric line without a count, from where its count
  -- should stand; on the first header of a section whose counts do not sum, its name.
  pub uncounted : r.refusal ≡ 16 → OnVerdict text r (λ l clause from to. BareOn text l clause from to)
  pub summed : r.refusal ≡ 17 → OnVerdict text r (λ l clause from to. (clause ≡ 1) × NameOn text l from to)
  -- "sum and measures"
  pub sums : r.refusal ≡ 17 → SumNamed text r
