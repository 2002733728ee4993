-- Runs of lines: consecutive lines of a text that pass a test, as places in it.
use Rattle.std.specs.Prelude.{ℕ, ◌+◌, ◌≤◌, ◌≡◌, List, map, Bool, true, false, ◌&&◌, not, length, take, drop}
use Rattle.songcode.specs.Lists.{is_empty, taken, left}
use Rattle.songcode.specs.Bytes.{Byte, is}
use Rattle.songcode.specs.Answer.Lines.{Line}
use Rattle.songcode.specs.Answer.Sections.{Kind, kind_of, key_line, modifier_line, pattern_line}
use Rattle.text.specs.Spans.{spans_from, line_text}
use Rattle.sections.specs.declared.runs.Run.{Run}
use Rattle.sections.specs.declared.runs.Test.{Test}
use Rattle.sections.specs.declared.runs.Test.TheVariants.{Full, Body, Early, Pattern}

-- The lines of a text from a place on, where the line of that number begins.
unfoldable pub text_lines : List ℕ → ℕ → ℕ → List Line
text_lines s n at = map (line_text s) (spans_from n at 0 (drop at s))

-- A line of a section between its header and the `--`; such a line of its pattern.
unfoldable pub in_body : List Byte → Bool
unfolding is_empty is
in_body bs = not (is_empty bs) && not (is "--" bs)

unfoldable pub is_pattern_kind : Kind → Bool
is_pattern_kind k = elim k [ key_line ↦ false | modifier_line ↦ false | pattern_line ↦ true ]

unfoldable pub is_pattern_text : List Byte → Bool
unfolding kind_of is_pattern_kind
is_pattern_text bs = is_pattern_kind (kind_of bs)

-- The tests of lines, by their texts.
unfoldable pub passes : Test → List Byte → Bool
unfolding is_empty in_body is_pattern_text
passes Full bs = not (is_empty bs)
passes Body bs = in_body bs
passes Early bs = in_body bs && not (is_pattern_text bs)
passes Pattern bs = in_body bs && is_pattern_text bs

-- A line passes a test as far as its first bytes say; a `--` they do not tell. Where it opens so, only a `--` fails it.
unfoldable pub opens : Test → List Byte → Bool
unfolding is_empty is_pattern_text
opens Full bs = not (is_empty bs)
opens Body bs = not (is_empty bs)
opens Early bs = not (is_pattern_text bs)
opens Pattern bs = not (is_empty bs) && is_pattern_text bs

unfoldable pub parted : Test → List Byte → Bool
unfolding is
parted Full bs = false
parted Body bs = is "--" bs
parted Early bs = false
parted Pattern bs = is "--" bs

unfoldable pub passing : Test → Line → Bool
unfolding passes
passing t l = passes t l.text

-- A blank line.
unfoldable pub blank_line : Line → Bool
unfolding is_empty
blank_line l = is_empty l.text

-- The lines of a run, and those behind it.
unfoldable pub lines_of : List ℕ → Run → List Line
unfolding text_lines
lines_of s r = take r.lines (text_lines s r.number r.at)

unfoldable pub lines_behind : List ℕ → Run → List Line
unfolding text_lines
lines_behind s r = text_lines s (r.number + r.lines) r.next

-- The longest run of lines, from a line on, that all pass a test.
pub record Longest (s : List ℕ) (t : Test) (n at : ℕ) (r : Run) : Type 0 where
  pub number : r.number ≡ n
  pub place : r.at ≡ at
  pub onward : at ≤ r.next
  pub inside : r.next ≤ length s
  pub counted : at + r.lines ≤ r.next
  pub lines : lines_of s r ≡ taken (passing t) (text_lines s n at)
  pub behind : lines_behind s r ≡ left (passing t) (text_lines s n at)
