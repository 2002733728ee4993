-- The definitions before a place are loaded: what the buffer holds of them, and what is left.
use Rattle.std.specs.Prelude.{ℕ, ◌+◌, ◌-◌, ◌<◌, ◌≤◌, ◌≡◌, Bool, true, false, length, set, Result, MatchResult}
use mathlib.Core.List.{List, [], ◌∷◌, ◌++◌, map, flat_map}
use Rattle.std.proofs.Math.Option.{Option, none, some}
use Rattle.songcode.specs.Answer.Lines.{Block, blocks}
use Rattle.songcode.specs.Song.{Items, Definition}
use Rattle.songcode.specs.Answer.Sections.{twice}
use Rattle.songcode.specs.Answer.SongText.{block_order, definition_blocks, section_blocks, head_in, heads_faults, first_line, definition_faults, definition_in}
use Rattle.songcode.specs.Answer.References.{definition_of, items_of, put_in, definitions_references}
use Rattle.songcode.specs.Description.WrittenSong.{id_of}
use Rattle.songcode.specs.Answer.Answer.{blocks_of, song_of}
use Rattle.refusals.specs.declared.Refusal.{Refusal}
use Rattle.tokens.specs.Kept.{KeptFrom}
use Rattle.score.specs.declared.stretches.Stretch.{Stretch}
use Rattle.score.specs.Places.{head_word}
use Rattle.score.specs.Standing.{Stands}
use Rattle.outlines.specs.declared.readings.Outline.{Outline}
use Rattle.outlines.specs.Words.{outline_word, vacant}
use Rattle.outlines.specs.Told.{Sketches, Tells}
use Rattle.sections.specs.declared.blocks.Place.{Place}
use Rattle.sections.specs.Runs.{text_lines}
use Rattle.sections.specs.BlockParts.{block_at, lines_past}
use Rattle.laying.specs.declared.definitions.Loaded.{Loaded}
use Rattle.laying.specs.Fronts.{DefinedFits, Front}
use Rattle.laying.specs.Scores.{RefusedThree}

-- The text of a definition in the row, and its outline; its references are right among all definitions.
pub record HeldText (ds : List Definition) (ws : List ℕ) (at : Stretch) (o : Outline) (r : Items) : Type 0 where
  pub stands : Stands ws at r
  pub fits : DefinedFits ds r
  pub sketched : Sketches o r
  pub tells : Tells o (put_in (items_of ds) r)

unfoldable pub HeldItems : List Definition → List ℕ → Stretch → Outline → Option Items → Type 0
HeldItems ds ws at o none = (at.to ≤ at.from) × (o ≡ vacant)
HeldItems ds ws at o (some r) = HeldText ds ws at o r

-- What is found of a number: whether a definition is missing, where its words stand, and its outline.
unfoldable pub Held : List Definition → List ℕ → Option Definition → Bool → Stretch → Outline → Type 0
unfolding HeldItems
Held ds ws none missing at o = (missing ≡ true) × (at.to ≤ at.from) × (o ≡ vacant)
Held ds ws (some d) missing at o = (missing ≡ false) × HeldItems ds ws at o d.items

-- The two words in front of a definition's text that stands from the mark's second next place up to an end, and the new mark there.
abbrev pub entered : ℕ → ℕ → ℕ → Outline → List ℕ → List ℕ
entered mark end id o ws = set (set (set ws (mark + 1) (outline_word o)) mark (head_word (end - mark) id)) end 0

-- The blocks from a place on, and the definitions among them.
unfoldable pub blocks_from : List ℕ → Place → List Block
blocks_from s p = blocks (text_lines s p.number p.at)

unfoldable pub definitions_from : List ℕ → Place → List Definition
unfolding blocks_from
definitions_from s p = map definition_in (definition_blocks (blocks_from s p))

-- A block begins at the place, or the text ends there; only definitions and then sections are left, and stage 2 complains of none.
pub record Leaves (s : List ℕ) (count : ℕ) (seen : List ℕ) (p : Place) : Type 0 where
  pub number : 1 ≤ p.number
  pub counted : p.number ≤ p.at + 1
  pub inside : p.at ≤ length s
  pub opens : p.at < length s → blocks_from s p ≡ block_at s p.number p.at ∷ blocks (lines_past s p.number p.at)
  pub order : block_order 1 (blocks_from s p) ≡ []
  pub sections : section_blocks (blocks_from s p) ≡ section_blocks (blocks_of s)
  pub heads : heads_faults count (definition_blocks (blocks_from s p)) ≡ []
  pub fresh : twice 6 head_in seen (map first_line (definition_blocks (blocks_from s p))) ≡ []
  pub texts : flat_map (λ b. definition_faults b.others) (definition_blocks (blocks_from s p)) ≡ []

-- The definitions before the place stand at the row's front, in their order; the last one first they are the earlier ones. Stage 3 complains of none.
-- What is kept behind them is right.
pub record Loading (s ws : List ℕ) (mark : ℕ) (p : Place) : Type 0 where
  pub small : length s ≤ 65536
  pub kept : KeptFrom s ws (mark + 1)
  pub filled : mark ≤ p.at
  pub done : List Definition
  pub front : Front (song_of s).definitions done ws mark
  pub all : (song_of s).definitions ≡ done ++ definitions_from s p
  pub earlier : List Definition
  pub same : (n : ℕ) → definition_of n earlier ≡ definition_of n done
  pub leaves : Leaves s (length done) (map id_of earlier) p
  pub clear : definitions_references [] (song_of s).definitions ≡ definitions_references earlier (definitions_from s p)

-- One more definition is loaded, and a block behind it is next.
pub record LoadsNext (s ws : List ℕ) (p : Place) (r : Loaded) : Type 0 where
  pub loading : Loading s ws r.mark r.sections
  pub further : p.at < r.sections.at

-- One more definition is loaded, or stage 3 refuses it.
abbrev pub LoadsOne : List ℕ → List ℕ → Place → Result Loaded Refusal → Type 0
LoadsOne s ws p r = MatchResult r (LoadsNext s ws p) (RefusedThree s)
