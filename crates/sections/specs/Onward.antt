-- The sections of a text from a place on, where only sections are left: how one is met, and then the next.
use Rattle.std.specs.Prelude.{ℕ, ◌+◌, ◌<◌, ◌≤◌, ◌≡◌, length}
use mathlib.Core.List.{List, [], ◌∷◌, map, flat_map}
use Rattle.std.proofs.Math.Option.{some}
use Rattle.songcode.specs.Answer.Lines.{blocks}
use Rattle.songcode.specs.Song.{Section}
use Rattle.songcode.specs.Answer.Sections.{section_faults, section_in, pattern_in}
use Rattle.sections.specs.declared.blocks.Place.{Place}
use Rattle.sections.specs.declared.walking.Passed.{Passed}
use Rattle.sections.specs.declared.walking.Met.{Met}
use Rattle.sections.specs.Runs.{text_lines, lines_of}
use Rattle.sections.specs.BlockParts.{block_at, lines_past, PartsAt, SectionAt}
use Rattle.sections.specs.SectionSays.{PartsSay, SectionSays}

unfoldable pub sections_from : List ℕ → Place → List Section
sections_from s p = map section_in (blocks (text_lines s p.number p.at))

-- A block begins at the place, or the text ends there; stage 2 complains of none from there on.
pub record Onward (s : List ℕ) (p : Place) : Type 0 where
  pub number : 1 ≤ p.number
  pub counted : p.number ≤ p.at + 1
  pub inside : p.at ≤ length s
  pub opens : p.at < length s → blocks (text_lines s p.number p.at) ≡ block_at s p.number p.at ∷ blocks (lines_past s p.number p.at)
  pub fair : flat_map section_faults (blocks (text_lines s p.number p.at)) ≡ []

-- The section of the block that begins at the place.
unfoldable pub section_at : List ℕ → Place → Section
section_at s p = section_in (block_at s p.number p.at)

-- Their headers stand behind that line.
unfoldable pub Later : ℕ → List Section → Type 0
Later n [] = Unit {0}
Later n (x ∷ xs) = (n < x.header) × Later n xs

-- The section at the place is passed, and the sections behind it stand from the next place on.
pub record Passes (s : List ℕ) (p : Place) (r : Passed) : Type 0 where
  pub read : PartsAt s p.number p.at r.section
  pub says : PartsSay s (section_at s p) r.section
  pub written : pattern_in (lines_of s r.section.pattern) ≡ some (section_at s p).pattern
  pub opened : blocks (text_lines s p.number p.at) ≡ block_at s p.number p.at ∷ blocks (text_lines s r.next.number r.next.at)
  pub first : sections_from s p ≡ section_at s p ∷ sections_from s r.next
  pub onward : Onward s r.next
  pub further : p.at < r.next.at
  pub later : Later (section_at s p).header (sections_from s r.next)

-- It is read.
pub record Meets (s : List ℕ) (p : Place) (r : Met) : Type 0 where
  pub read : SectionAt s p.number p.at r.section
  pub says : SectionSays s (section_at s p) r.section
  pub written : pattern_in (lines_of s r.section.pattern) ≡ some (section_at s p).pattern
  pub opened : blocks (text_lines s p.number p.at) ≡ block_at s p.number p.at ∷ blocks (text_lines s r.next.number r.next.at)
  pub first : sections_from s p ≡ section_at s p ∷ sections_from s r.next
  pub onward : Onward s r.next
  pub further : p.at < r.next.at
  pub later : Later (section_at s p).header (sections_from s r.next)
