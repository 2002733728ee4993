-- Blocks one behind the other on a sheet.
use Rattle.std.specs.Prelude.{ℕ, zero, suc, ◌<◌, ◌≡◌}
use mathlib.Core.List.{List, [], ◌∷◌, ◌++◌, map, flat_map}
use Rattle.songcode.specs.Answer.Lines.{blocks}
use Rattle.songcode.specs.Answer.Answer.{song_of}
use Rattle.songcode.specs.Answer.Flat.{end_line, flat_section}
use Rattle.sections.specs.declared.blocks.Place.{Place}
use Rattle.sections.specs.Runs.{text_lines}
use Rattle.sections.specs.BlockParts.{block_at}
use Rattle.sections.specs.Onward.{Onward}
use Rattle.flat.specs.Sheets.{Sheet, puts}

-- "one blank line parts blocks": it stands before every block but the first.
unfoldable pub parting : ℕ → List ℕ
parting zero = []
parting (suc at) = 10 ∷ []

unfoldable pub block_bytes : ℕ → List (List ℕ) → List ℕ
unfolding parting flat_map end_line
block_bytes at rows = parting at ++ flat_map end_line rows

unfoldable pub put_blocks : List (List (List ℕ)) → Sheet → Sheet
unfolding puts block_bytes
put_blocks [] x = x
put_blocks (b ∷ bs) x = put_blocks bs (puts (block_bytes x.at b) x)

-- The copy's block of the section that begins at a place; those of all sections from there on.
abbrev pub flat_at : List ℕ → Place → List (List ℕ)
flat_at s p = flat_section (song_of s) (block_at s p.number p.at)

abbrev pub flat_from : List ℕ → Place → List (List (List ℕ))
flat_from s p = map (flat_section (song_of s)) (blocks (text_lines s p.number p.at))

-- What a call promises that writes blocks behind those on a sheet: its buffer and count before, and after.
abbrev pub AddsBlocks : List (List (List ℕ)) → List ℕ → ℕ → List ℕ → ℕ → Type 0
AddsBlocks bs before from after to =
    ◌≡◌ {A = Sheet} (record { copy = after; at = to }) (put_blocks bs (record { copy = before; at = from }))

-- The block at a place is passed: the blocks behind it stand from the next place on.
pub record Leads (s : List ℕ) (p q : Place) : Type 0 where
  pub opened : blocks (text_lines s p.number p.at) ≡ block_at s p.number p.at ∷ blocks (text_lines s q.number q.at)
  pub onward : Onward s q
  pub further : p.at < q.at
