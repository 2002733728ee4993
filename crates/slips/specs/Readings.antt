-- A text read token by token: what is found in the tokens of a line, and of lines one behind the other.
use Rattle.std.specs.Prelude.{ℕ, ◌+◌, ◌≤◌, ◌≡◌, List, [], ◌∷◌, ◌++◌, true, false, length, take, drop}
use Rattle.songcode.specs.Bytes.{placed}
use Rattle.songcode.specs.Answer.Keys.{setting_in}
use Rattle.text.specs.declared.lines.Line.{Line}
use Rattle.text.specs.Spans.{part, spans_from}
use Rattle.sections.specs.declared.runs.Run.{Run}
use Rattle.sections.specs.Runs.{lines_of}
use Rattle.slips.specs.declared.readings.Reading.{Reading}
use Rattle.slips.specs.declared.slip.Slip.{Slip}
use Rattle.slips.specs.Marks.{Mark, MarksFrom, end_mark, MarkedLines}
use Rattle.slips.specs.PatternText.{PatternText}
use Rattle.slips.specs.Strays.{heard, is_found, stray_place}
use Rattle.slips.specs.Misfits.{fitted}

-- What is found behind some tokens.
pub record Follows (x : Reading) (ms : List Mark) (r : Reading) : Type 0 where
  pub stray : r.stray ≡ heard x.stray ms
  pub within : stray_place x.stray ≤ 65536 → stray_place r.stray ≤ 65536
  pub time : r.time ≡ x.time
  pub misfit : r.misfit ≡ fitted x.time x.misfit ms

-- The tokens from one place up to another, and a line end.
pub record ReadsLine (s : List ℕ) (from to : ℕ) (x r : Reading) : Type 0 where
  pub marks : List Mark
  pub marked : MarksFrom s from to marks
  pub follows : Follows x (marks ++ (end_mark to ∷ [])) r

-- The lines of a run with their places.
abbrev pub lines_in : List ℕ → Run → List Line
lines_in s run = take run.lines (spans_from run.number run.at 0 (drop run.at s))

pub record ReadsRun (s : List ℕ) (run : Run) (x r : Reading) : Type 0 where
  pub marks : List Mark
  pub marked : MarkedLines s (lines_in s run) marks
  pub follows : Follows x marks r

-- The setting of a modifier line: its tokens.
pub record ReadsSide (s : List ℕ) (l : Line) (x r : Reading) : Type 0 where
  pub from : ℕ
  pub begins : l.start ≤ from
  pub setting : setting_in (placed l.start (part l.start l.stop s)) ≡ placed from (part from l.stop s)
  pub inside : l.stop ≤ length s
  pub reads : ReadsLine s from l.stop x r

-- A slip that tells of the stray `%`.
pub record ToldStray (x : Reading) (r : Slip) : Type 0 where
  pub told : is_found x.stray ≡ true → stray_place x.stray ≤ 65536 → (r.clause ≡ 1) × (r.from ≡ stray_place x.stray) × (r.to ≡ r.from + 1)
  pub none : is_found x.stray ≡ false → r.clause ≡ 0

-- A slip that tells of the measure that does not fit.
pub record ToldMisfit (x : Reading) (time : ℕ) (r : Slip) : Type 0 where
  pub told : x.misfit.found ≡ true → r.clause ≡ 1
  pub none : x.misfit.found ≡ false → r.clause ≡ 0
  pub from : r.from ≡ x.misfit.from
  pub to : r.to ≡ x.misfit.to
  pub positions : r.first ≡ x.misfit.positions
  pub meter : r.second ≡ time

-- A section's pattern.
pub record ReadsPattern (s : List ℕ) (run : Run) (x r : Reading) : Type 0 where
  pub marks : List Mark
  pub text : PatternText s (lines_of s run) marks
  pub follows : Follows x marks r
