-- Refusal 13: the `%` that is named.
use Rattle.std.specs.Prelude.{ℕ, ◌≡◌, get_or}
use mathlib.Core.List.{List, Memᴰ}
use Rattle.songcode.specs.Answer.Lines.{Block}
use Rattle.songcode.specs.Answer.Sections.{pattern_run, body}
use Rattle.songcode.specs.Answer.Answer.{blocks_of}
use Rattle.text.specs.declared.lines.Line.{Line}
use Rattle.text.specs.Spans.{line_text}
use Rattle.slips.specs.Marks.{Mark, SideText}
use Rattle.slips.specs.PatternText.{PatternText}
use Rattle.slips.specs.Strays.{StrayAt}
use Rattle.slips.specs.Finds.{LineOf}
use Rattle.explain.specs.declared.Explained.{Explained}
use Rattle.explain.specs.Causes.{clause_of_cause}

-- The only clause is told; the place is the first `%` of the text before every chord, a single byte.
pub record AgainNamed (text : List ℕ) (Text : List Mark → Type 0) (r : Explained) : Type 0 where
  pub marks : List Mark
  pub said : Text marks
  pub clause : clause_of_cause r.cause ≡ 1
  pub first : StrayAt marks r.place.offset
  pub single : r.place.length ≡ 1
  pub byte : get_or text r.place.offset 0 ≡ 37

-- "header; lead-in, tail: own": the text is what the pattern of the section says whose header the verdict names, references put in, or the lead-in or
-- tail on its line.
pub data StrayNamed (text : List ℕ) (r : Explained) : Type 0 where
  in_pattern : (b : Block) → Memᴰ b (blocks_of text) → b.first.number ≡ r.line → AgainNamed text (PatternText text (pattern_run (body b))) r
      → StrayNamed text r
  in_side : (l : Line) → LineOf text r.line l → (b : Block) → Memᴰ b (blocks_of text) → Memᴰ (line_text text l) b.others
      → AgainNamed text (SideText text l) r → StrayNamed text r
