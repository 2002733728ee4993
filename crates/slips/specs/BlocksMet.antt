-- The blocks of a text, met one behind the other; the block that holds a line.
use Rattle.std.specs.Prelude.{ℕ, ◌+◌, ◌<◌, ◌≤◌, ◌≡◌, length}
use mathlib.Core.List.{List, ◌∷◌, Memᴰ}
use Rattle.songcode.specs.Answer.Lines.{Line, Block, blocks}
use Rattle.songcode.specs.Answer.Answer.{blocks_of}
use Rattle.sections.specs.declared.blocks.Place.{Place}
use Rattle.sections.specs.Runs.{text_lines}
use Rattle.sections.specs.BlockParts.{block_at, lines_past}

-- A block begins at the place, if the text does not end there.
abbrev pub OpensAt : List ℕ → Place → Type 0
OpensAt s p = p.at < length s → blocks (text_lines s p.number p.at) ≡ block_at s p.number p.at ∷ blocks (lines_past s p.number p.at)

abbrev pub Holds : Block → ℕ → Type 0
Holds b n = (m : Line) × Memᴰ m (b.first ∷ b.others) × (m.number ≡ n)

-- Behind the block at a place stand the blocks from the next place on; none of its own lines has their number.
pub record Behind (s : List ℕ) (p r : Place) : Type 0 where
  pub same : blocks (lines_past s p.number p.at) ≡ blocks (text_lines s r.number r.at)
  pub opens : OpensAt s r
  pub before : r.at < length s → (n : ℕ) → Holds (block_at s p.number p.at) n → n < r.number

-- The block of the text that holds the line of a number, if one does.
pub record BlockOf (s : List ℕ) (n : ℕ) (r : Place) : Type 0 where
  pub number : 1 ≤ r.number
  pub counted : r.number ≤ r.at + 1
  pub inside : r.at ≤ length s
  pub holds : (b : Block) → Memᴰ b (blocks_of s) → Holds b n → (r.at < length s) × (b ≡ block_at s r.number r.at)
