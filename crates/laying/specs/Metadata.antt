-- Where the metadata of a chart ends: which blocks stand from there on, and which keys before.
use Rattle.std.specs.Prelude.{ℕ, ◌+◌, ◌-◌, ◌<◌, ◌≤◌, ◌≡◌, List, [], ◌∷◌, length}
use Rattle.songcode.specs.Answer.Lines.{blocks}
use Rattle.songcode.specs.Answer.Answer.{blocks_of}
use Rattle.songcode.specs.Answer.SongText.{block_order, metadata_lines, definition_blocks, section_blocks}
use Rattle.sections.specs.declared.blocks.Place.{Place}
use Rattle.sections.specs.declared.runs.Run.{Run}
use Rattle.sections.specs.Runs.{text_lines, lines_of}
use Rattle.sections.specs.BlockParts.{block_at, lines_past}
use Rattle.sections.specs.Slots.{setting_among}

-- All lines before a place.
unfoldable pub lines_before : Place → Run
lines_before p = record { number = 1; at = 0; lines = p.number - 1; next = p.at }

-- A block begins at the place, or the text ends there. From there on no metadata is left, and all definitions and sections are, in their order.
pub record MetadataEnds (s : List ℕ) (p : Place) : Type 0 where
  pub number : 1 ≤ p.number
  pub counted : p.number ≤ p.at + 1
  pub inside : p.at ≤ length s
  pub opens : p.at < length s → blocks (text_lines s p.number p.at) ≡ block_at s p.number p.at ∷ blocks (lines_past s p.number p.at)
  pub no_metadata : metadata_lines (blocks (text_lines s p.number p.at)) ≡ []
  pub ordered : block_order 1 (blocks (text_lines s p.number p.at)) ≡ []
  pub definitions : definition_blocks (blocks (text_lines s p.number p.at)) ≡ definition_blocks (blocks_of s)
  pub sections : section_blocks (blocks (text_lines s p.number p.at)) ≡ section_blocks (blocks_of s)
  pub keys : (k : ℕ) → k < 8 → setting_among k (lines_of s (lines_before p)) ≡ setting_among k (metadata_lines (blocks_of s))
