-- Refusal 12: the measure that is named, and its numbers.
use Rattle.std.specs.Prelude.{ℕ, ◌+◌, ◌≡◌}
use mathlib.Core.List.{List, Memᴰ}
use Rattle.songcode.specs.Answer.Lines.{Block}
use Rattle.songcode.specs.Answer.Sections.{pattern_run, body, section_in}
use Rattle.songcode.specs.Answer.SongText.{section_blocks}
use Rattle.songcode.specs.Answer.Playing.{time_of}
use Rattle.songcode.specs.Answer.Answer.{blocks_of, song_of}
use Rattle.text.specs.declared.lines.Line.{Line}
use Rattle.text.specs.Spans.{line_text}
use Rattle.slips.specs.Marks.{Mark, SideText}
use Rattle.slips.specs.PatternText.{PatternText}
use Rattle.slips.specs.Misfits.{measures_in, FirstMisfit}
use Rattle.slips.specs.Finds.{LineOf}
use Rattle.explain.specs.declared.Explained.{Explained}
use Rattle.explain.specs.Causes.{clause_of_cause}

-- The only clause is told; the place is the first measure of the text whose positions do not divide N; the numbers are its positions, and N.
pub record MeasureNamed (Text : List Mark → Type 0) (n : ℕ) (r : Explained) : Type 0 where
  pub marks : List Mark
  pub text : Text marks
  pub clause : clause_of_cause r.cause ≡ 1
  pub first : FirstMisfit n (measures_in marks) r.place.offset (r.place.offset + r.place.length) r.first
  pub meter : r.second ≡ n

-- "header; lead-in, tail: own": the text is what the pattern of the section says whose header the verdict names, references put in, or the lead-in or
-- tail on its line; N is that section's.
pub data MisfitNamed (text : List ℕ) (r : Explained) : Type 0 where
  in_pattern : (b : Block) → Memᴰ b (section_blocks (blocks_of text)) → b.first.number ≡ r.line
      → MeasureNamed (PatternText text (pattern_run (body b))) (time_of (song_of text) (section_in b)) r → MisfitNamed text r
  in_side : (l : Line) → LineOf text r.line l → (b : Block) → Memᴰ b (section_blocks (blocks_of text))
      → Memᴰ (line_text text l) b.others → MeasureNamed (SideText text l) (time_of (song_of text) (section_in b)) r → MisfitNamed text r
