-- Refusals 12 and 13: what is told of the text that the verdict is about, "header; lead-in, tail: own".
use Rattle.std.specs.Prelude.{ℕ, ◌≡◌}
use mathlib.Core.List.{List, Memᴰ}
use Rattle.songcode.specs.Answer.Lines.{Block}
use Rattle.songcode.specs.Answer.Sections.{pattern_run, body}
use Rattle.songcode.specs.Answer.Answer.{blocks_of}
use Rattle.text.specs.declared.lines.Line.{Line}
use Rattle.text.specs.Spans.{spans, line_text}
use Rattle.slips.specs.declared.slip.Slip.{Slip}
use Rattle.slips.specs.Marks.{SideText}
use Rattle.slips.specs.PatternText.{PatternText}
use Rattle.slips.specs.Strays.{StrayTold}
use Rattle.slips.specs.Misfits.{MisfitTold}

-- On a section's first line of its pattern, on another one of the lead-in or tail that stands there.
pub record MeterTold (s : List ℕ) (line : ℕ) (l : Line) (clause from to : ℕ) : Type 0 where
  pub header_stray : (b : Block) → Memᴰ b (blocks_of s) → b.first.number ≡ line
      → StrayTold s (PatternText s (pattern_run (body b))) clause from to
  pub side_stray : l.number ≡ line → (b : Block) → Memᴰ b (blocks_of s) → Memᴰ (line_text s l) b.others
      → StrayTold s (SideText s l) clause from to

-- Refusal 12 in a section whose N this is: of the same texts, and the numbers that are told of them.
pub record MisfitsTold (s : List ℕ) (line : ℕ) (l : Line) (n : ℕ) (x : Slip) : Type 0 where
  pub header_misfit : (b : Block) → Memᴰ b (blocks_of s) → b.first.number ≡ line
      → MisfitTold s (PatternText s (pattern_run (body b))) n x.clause x.from x.to x.first
  pub side_misfit : Memᴰ l (spans s) → l.number ≡ line → (b : Block) → Memᴰ b (blocks_of s) → Memᴰ (line_text s l) b.others
      → MisfitTold s (SideText s l) n x.clause x.from x.to x.first
  pub meter : x.clause ≡ 1 → x.second ≡ n
