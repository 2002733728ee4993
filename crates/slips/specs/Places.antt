-- Where a place lies: "lines count from 1".
use Rattle.std.specs.Prelude.{ℕ, ◌+◌, ◌≤◌, ◌<◌, ◌≡◌, List, get_or}
use Rattle.std.proofs.Math.ListN as lists
use Rattle.songcode.specs.Answer.Lines.{inside}
use Rattle.songcode.specs.Answer.Answer.{line_of_place}
use Rattle.text.specs.declared.lines.Line.{Line}
use Rattle.text.specs.Spans.{end}
use Rattle.slips.specs.declared.places.Place.{Place}

-- The place lies in the text, and from its first byte to its end on the line that it names.
pub record OnLine (s : List ℕ) (p : Place) : Type 0 where
  pub inside : p.offset + p.length ≤ lists.length s
  pub begins : line_of_place p.offset s ≡ p.line
  pub ends : line_of_place (p.offset + p.length) s ≡ p.line

-- No line ends from one place up to another.
abbrev pub Unended : List ℕ → ℕ → ℕ → Type 0
Unended s from to = (k : ℕ) → from ≤ k → k < to → end (get_or s k 0) ≡ inside

-- The text of a line lies in the file, and no line ends in it; some of its bytes stand on one line.
abbrev pub Whole : List ℕ → Line → Type 0
Whole s l = (l.stop ≤ lists.length s) × Unended s l.start l.stop

pub record OneLine (s : List ℕ) (from to : ℕ) : Type 0 where
  pub onward : from ≤ to
  pub inside : to ≤ lists.length s
  pub unended : Unended s from to

-- The place is exactly the bytes that are asked for, if they stand on one line.
abbrev pub Covers : List ℕ → ℕ → ℕ → Place → Type 0
Covers s from to p = from ≤ to → to ≤ lists.length s → Unended s from to → (p.offset ≡ from) × (p.offset + p.length ≡ to)
