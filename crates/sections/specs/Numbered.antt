-- The line of a text with a given number.
use Rattle.std.specs.Prelude.{ℕ, suc, ◌+◌, ◌≤◌, ◌≡◌, length}
use mathlib.Core.List.{List, Memᴰ}
use Rattle.songcode.specs.Bytes.{placed}
use Rattle.songcode.specs.Answer.Lines as songcode
use Rattle.songcode.specs.Answer.Lines.{lines}
use Rattle.text.specs.declared.lines.Line.{Line}
use Rattle.text.specs.Spans.{spans, line_text}

-- No line of the text has the number.
abbrev pub Unnumbered : List ℕ → ℕ → Type 0
Unnumbered s n = (l : Line) → Memᴰ l (spans s) → l.number ≡ n → ⊥

-- It is the line that songcode numbers so; where there is none, the end of the text, numbered behind its last line.
pub record Numbered (s : List ℕ) (n : ℕ) (r : Line) : Type 0 where
  pub is : (l : Line) → Memᴰ l (spans s) → l.number ≡ n → r ≡ l
  pub none : Unnumbered s n → r ≡ record { number = suc (length (spans s)); start = length s; stop = length s; next = length s }
  pub says : (m : songcode.Line) → Memᴰ m (lines (placed 0 s)) → m.number ≡ n → line_text s r ≡ m
  pub number : 1 ≤ r.number
  pub counted : r.number ≤ r.start + 1
  pub onward : r.start ≤ r.stop
  pub inside : r.stop ≤ length s
