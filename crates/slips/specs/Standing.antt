-- Where a line and a block stand in a text.
use Rattle.std.specs.Prelude.{ℕ, ◌+◌, ◌≤◌, List, length}
use Rattle.text.specs.declared.lines.Line.{Line}
use Rattle.sections.specs.declared.blocks.Place.{Place}

abbrev pub LineIn : List ℕ → Line → Type 0
LineIn s l = (l.start ≤ l.stop) × (l.stop ≤ length s)

-- Lines are counted from 1, and each has a byte before the next begins.
abbrev pub Counted : Place → Type 0
Counted p = (1 ≤ p.number) × (p.number ≤ p.at + 1)
