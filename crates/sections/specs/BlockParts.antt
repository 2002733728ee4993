-- Blocks as places in the text: the parts of a section's block and of a definition's, and where the next block begins.
use Rattle.std.proofs.Math.Option.{get_or}
use Rattle.std.specs.Prelude.{ℕ, ◌+◌, ◌<◌, ◌≤◌, ◌≡◌, List, [], ◌∷◌, ◌++◌, length}
use Rattle.songcode.specs.Lists.{taken, left}
use Rattle.songcode.specs.Answer.Lines.{Line, Block, blocks}
use Rattle.songcode.specs.Answer.Sections.{is_pattern_line, not_pattern_line, pattern_run, body, from_dashes}
use Rattle.songcode.specs.Answer.SongText.{head_in}
use Rattle.text.specs.Spans.{line_at, line_text}
use Rattle.sections.specs.declared.runs.Run.{Run}
use Rattle.sections.specs.declared.runs.Test.TheVariants.{Full}
use Rattle.sections.specs.declared.blocks.Parts.{Parts}
use Rattle.sections.specs.declared.blocks.Place.{Place}
use Rattle.sections.specs.declared.blocks.SectionRead.{SectionRead}
use Rattle.sections.specs.declared.blocks.DefinitionRead.{DefinitionRead}
use Rattle.sections.specs.Runs.{text_lines, passing, blank_line, lines_of, lines_behind}
use Rattle.sections.specs.Values.{KeysAre, ModifiersAre}

-- The block whose first line begins at a place, and the lines behind it.
unfoldable pub block_at : List ℕ → ℕ → ℕ → Block
unfolding taken passing text_lines
block_at s n at =
    record {
      first = line_text s (line_at s n at);
      others = taken (passing Full) (text_lines s (n + 1) (line_at s n at).next);
    }

unfoldable pub lines_past : List ℕ → ℕ → ℕ → List Line
unfolding left passing text_lines
lines_past s n at = left (passing Full) (text_lines s (n + 1) (line_at s n at).next)

-- A run whose first line stands where the text has a line, or at its end; the next line behind it does too.
pub record Placed (s : List ℕ) (r : Run) : Type 0 where
  pub number : 1 ≤ r.number
  pub counted : r.number ≤ r.at + 1
  pub inside : r.at ≤ length s
  pub behind : r.number + r.lines ≤ r.next + 1
  pub ends : r.next ≤ length s

-- The lines of a section's body before its pattern, and behind it; the lyric lines behind the `--`.
unfoldable pub early_lines : List Line → List Line
unfolding taken not_pattern_line
early_lines ls = taken not_pattern_line ls

unfoldable pub late_lines : List Line → List Line
unfolding left is_pattern_line not_pattern_line
late_lines ls = left is_pattern_line (left not_pattern_line ls)

unfoldable pub behind_dashes : List Line → List Line
behind_dashes [] = []
behind_dashes (dashes ∷ ls) = ls

-- Lyric lines from a line on, where the `--` stands if there are any.
pub record LyricsAt (s : List ℕ) (n at : ℕ) (r : Run) : Type 0 where
  pub onward : at ≤ r.next
  pub placed : Placed s r
  pub lines : lines_of s r ≡ behind_dashes (taken (passing Full) (text_lines s n at))
  pub past : lines_behind s r ≡ left (passing Full) (text_lines s n at)

-- The parts of the section's block at a place.
pub record PartsAt (s : List ℕ) (n at : ℕ) (r : Parts) : Type 0 where
  pub header : r.header ≡ n
  pub early_placed : Placed s r.early
  pub early : lines_of s r.early ≡ early_lines (body (block_at s n at))
  pub pattern_placed : Placed s r.pattern
  pub pattern : lines_of s r.pattern ≡ pattern_run (body (block_at s n at))
  pub late_placed : Placed s r.late
  pub late : lines_of s r.late ≡ late_lines (body (block_at s n at))
  pub lyrics_placed : Placed s r.lyrics
  pub lyrics : lines_of s r.lyrics ≡ behind_dashes (from_dashes (block_at s n at))
  pub past : lines_behind s r.lyrics ≡ lines_past s n at
  pub onward : at + 1 ≤ r.lyrics.next

-- What is read of a section's parts.
pub record PartsRead (s : List ℕ) (p : Parts) (r : SectionRead) : Type 0 where
  pub header : r.header ≡ p.header
  pub keys : KeysAre (lines_of s p.early) r.keys
  pub modifiers : ModifiersAre s (lines_of s p.late) r.modifiers
  pub pattern : r.pattern ≡ p.pattern
  pub lyrics : r.lyrics ≡ p.lyrics

-- What the section's block at a place says.
pub record SectionAt (s : List ℕ) (n at : ℕ) (r : SectionRead) : Type 0 where
  pub header : r.header ≡ n
  pub keys : KeysAre (early_lines (body (block_at s n at))) r.keys
  pub modifiers : ModifiersAre s (late_lines (body (block_at s n at))) r.modifiers
  pub pattern_placed : Placed s r.pattern
  pub pattern : lines_of s r.pattern ≡ pattern_run (body (block_at s n at))
  pub lyrics_placed : Placed s r.lyrics
  pub lyrics : lines_of s r.lyrics ≡ behind_dashes (from_dashes (block_at s n at))
  pub past : lines_behind s r.lyrics ≡ lines_past s n at
  pub onward : at + 1 ≤ r.lyrics.next

-- What the definition's block at a place says.
pub record DefinitionAt (s : List ℕ) (n at : ℕ) (r : DefinitionRead) : Type 0 where
  pub head : r.head ≡ n
  pub id : r.id ≡ get_or (head_in (block_at s n at).first) 0
  pub pattern_placed : Placed s r.pattern
  pub pattern : lines_of s r.pattern ≡ (block_at s n at).others
  pub past : lines_behind s r.pattern ≡ lines_past s n at
  pub onward : at + 1 ≤ r.pattern.next

-- The next block from a line on, if there is one: it begins at the place that is answered, which is else the end of the text. Only blank lines
-- stand before it.
pub record NextAt (s : List ℕ) (n at : ℕ) (r : Place) : Type 0 where
  pub number : 1 ≤ r.number
  pub counted : r.number ≤ r.at + 1
  pub onward : at ≤ r.at
  pub inside : r.at ≤ length s
  pub lines : text_lines s n at ≡ taken blank_line (text_lines s n at) ++ text_lines s r.number r.at
  pub same : blocks (text_lines s n at) ≡ blocks (text_lines s r.number r.at)
  pub over : length s ≤ r.at → blocks (text_lines s n at) ≡ []
  pub there : r.at < length s → blocks (text_lines s n at) ≡ block_at s r.number r.at ∷ blocks (lines_past s r.number r.at)
