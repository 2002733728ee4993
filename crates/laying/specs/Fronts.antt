-- The first definitions of a song at the front of the row, and the mark behind them.
use Rattle.std.specs.Prelude.{ℕ, ◌+◌, ◌≤◌, ◌≡◌, List, [], ◌∷◌, ◌++◌, length, take}
use Rattle.std.proofs.Math.Option.{Option, none, some}
use Rattle.songcode.specs.Song.{Items, Definition}
use Rattle.songcode.specs.Answer.PatternText.{depth, loops_deep, references}
use Rattle.songcode.specs.Description.Fits.{ReferAll}
use Rattle.score.specs.Standing.{ItemsFit}
use Rattle.outlines.specs.Rows.{definitions_row}

-- The items of a definition can be played from their words; its references are right among all definitions.
pub record DefinedFits (all : List Definition) (r : Items) : Type 0 where
  pub words : ItemsFit r
  pub shallow : depth r ≤ loops_deep
  pub refers : ReferAll all (references r)

unfoldable pub TextFits : List Definition → Option Items → Type 0
TextFits all none = Unit {0}
TextFits all (some r) = DefinedFits all r

unfoldable pub DefinitionFits : List Definition → Definition → Type 0
unfolding TextFits
DefinitionFits all d = (d.id ≤ 9999) × TextFits all d.items

unfoldable pub DefinitionsFit : List Definition → List Definition → Type 0
unfolding DefinitionFits
DefinitionsFit all [] = Unit {0}
DefinitionsFit all (d ∷ ds) = DefinitionFits all d × DefinitionsFit all ds

-- Some of all definitions stand in the first words of the row up to the mark, whatever stands behind it.
pub record Front (all ds : List Definition) (ws : List ℕ) (mark : ℕ) : Type 0 where
  pub words : take (mark + 1) ws ≡ definitions_row all ds ++ (0 ∷ [])
  pub size : mark ≡ length (definitions_row all ds)
  pub few : length ds ≤ 26
  pub fits : DefinitionsFit all ds
