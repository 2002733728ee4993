-- Every word of an accepted song is its row's fields, each within its bits: what `Layout` reads back of it is what was packed.
use Rattle.std.specs.Prelude.{ℕ, ◌≡◌}
use mathlib.Core.List.{List, Memᴰ}
use Rattle.songcode.specs.Answer.Tables.{Tables}
use Rattle.songcode.specs.Description.Layout.{Row, keys_row, sections_row, measures_row, beats_row, items_row, laid, Fit}

pub record WordOf (r : Row) (word : ℕ) : Type 0 where
  pub fields : List ℕ
  pub fit : Fit r.fields fields
  pub made : word ≡ laid r fields

pub record FieldsFit (t : Tables) : Type 0 where
  pub keys : (word : ℕ) → Memᴰ word t.keys → WordOf keys_row word
  pub sections : (word : ℕ) → Memᴰ word t.sections → WordOf sections_row word
  pub measures : (word : ℕ) → Memᴰ word t.measures → WordOf measures_row word
  pub beats : (word : ℕ) → Memᴰ word t.beats → WordOf beats_row word
  pub items : (word : ℕ) → Memᴰ word t.items → WordOf items_row word
