-- A text read with references put in, and what is remembered of the definitions that were read.
use Rattle.std.specs.Prelude.{ℕ, ◌≤◌, ◌≡◌, ◌⊎◌, List, [], ◌∷◌, ◌++◌, true, length, get_or, Option, Some, None}
use Rattle.songcode.specs.Answer.Answer.{blocks_of}
use Rattle.sections.specs.declared.runs.Run.{Run}
use Rattle.slips.specs.declared.readings.Misfit.{Misfit}
use Rattle.slips.specs.declared.readings.Reading.{Reading}
use Rattle.slips.specs.declared.referring.Referring.{Referring}
use Rattle.slips.specs.declared.referring.Meant.{Meant}
use Rattle.slips.specs.declared.signs.Token.{Token}
use Rattle.slips.specs.Taken.{TokenAt}
use Rattle.slips.specs.Marks.{Mark, MarksFrom, end_mark, MarkedLines, PlainText}
use Rattle.slips.specs.PatternText.{definition_lines, PutIn}
use Rattle.slips.specs.Strays.{AllSilent, is_settled}
use Rattle.slips.specs.Misfits.{no_measure, fitted}
use Rattle.slips.specs.Readings.{Follows, lines_in}

-- This stands among the definitions that are remembered, and has this number.
abbrev pub EntryOf : List (Option Meant) → ℕ → Meant → Type 0
EntryOf meant n m = (i : ℕ) × (get_or meant i None ≡ Some m) × (m.number ≡ n)

-- The definition of a number is among those that are remembered.
abbrev pub Remembers : List (Option Meant) → ℕ → Type 0
Remembers meant n = (i : ℕ) × (m : Meant) × (get_or meant i None ≡ Some m) × (m.number ≡ n)

-- No measure is open: one that does not fit is found, or none is begun.
abbrev pub Closed : Misfit → Type 0
Closed x = (x.found ≡ true) ⊎ (x ≡ no_measure)

-- Nothing more would be found in these tokens.
pub record Passed (ms : List Mark) (x : Reading) : Type 0 where
  pub stray : (is_settled x.stray ≡ true) ⊎ AllSilent ms
  pub misfit : (x.misfit.found ≡ true) ⊎ (fitted x.time no_measure ms ≡ no_measure)

-- So it is with the text of each definition that is remembered.
pub record Known (s : List ℕ) (x : Referring) : Type 0 where
  pub fresh : x.reading.misfit.positions ≡ 0 → x.reading.misfit ≡ no_measure
  pub passed : (n : ℕ) → Remembers x.meant n → (ms : List Mark) × PlainText s (definition_lines n (blocks_of s)) ms × Passed ms x.reading

-- The text of a definition is read.
pub record MeansRead (s : List ℕ) (n : ℕ) (x r : Referring) : Type 0 where
  pub marks : List Mark
  pub text : PlainText s (definition_lines n (blocks_of s)) marks
  pub follows : Follows x.reading marks r.reading
  pub known : Known s r

-- Some tokens are read, behind each of them what it means.
pub record PutRead (s : List ℕ) (ms : List Mark) (x r : Referring) : Type 0 where
  pub all : List Mark
  pub put : PutIn s ms all
  pub follows : Follows x.reading all r.reading
  pub known : Known s r

pub record TokenRead (s : List ℕ) (t : Token) (x r : Referring) : Type 0 where
  pub reads : (at to : ℕ) → to ≤ length s → (h : TokenAt s at to t) → t.next ≤ to
      → PutRead s (record { token = h.token; from = t.from; to = t.next } ∷ []) x r

pub record LineRead (s : List ℕ) (from to : ℕ) (x r : Referring) : Type 0 where
  pub marks : List Mark
  pub marked : MarksFrom s from to marks
  pub read : PutRead s (marks ++ (end_mark to ∷ [])) x r

pub record RunRead (s : List ℕ) (run : Run) (x r : Referring) : Type 0 where
  pub marks : List Mark
  pub marked : MarkedLines s (lines_in s run) marks
  pub read : PutRead s marks x r
