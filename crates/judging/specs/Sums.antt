-- A section played from its texts, and what the sections of a song hold in all.
use Rattle.std.specs.Prelude.{ℕ, ◌+◌, ◌≡◌, Bool, not, ◌&&◌, List, eqb, length}
use Rattle.songcode.specs.Lists.{provided◌then◌else◌}
use Rattle.songcode.specs.Answer.Tables.{Tables}
use Rattle.songcode.specs.Description.Performance.{total}
use Rattle.player.specs.declared.playing.Counts.{Counts}
use Rattle.player.specs.Arrangements.{arranged_row, PlaysWithin}
use Rattle.sections.specs.declared.values.Modifiers.{Modifiers}
use Rattle.laying.specs.declared.texts.Texts.{Texts}
use Rattle.judging.specs.declared.lyrics.Tally.{Tally}
use Rattle.judging.specs.declared.sums.Sums.{Sums}
use Rattle.judging.specs.declared.sums.Totals.{Totals}
use Rattle.judging.specs.Lengths.{arrangement_of}

-- The row that a section plays in n, as words.
unfoldable pub row_of_texts : List ℕ → ℕ → Texts → Modifiers → List (List ℕ)
row_of_texts ws n t m = arranged_row ws (arrangement_of n t m)

-- The section's measures are known to be few enough before it is played.
abbrev pub TextsWithin : List ℕ → ℕ → Texts → Modifiers → ℕ → Type 0
TextsWithin ws n t m base = PlaysWithin ws (arrangement_of n t m) base

-- How many measures and beats it plays.
unfoldable pub counts_of : List ℕ → ℕ → Texts → Modifiers → Counts
unfolding row_of_texts
counts_of ws n t m = record { measures = length (row_of_texts ws n t m); beats = total (row_of_texts ws n t m) }

-- Whether a section has lyric lines and a pattern that is not empty; whether, moreover, all its lines have counts; whether they sum to another number
-- of measures.
abbrev pub has_lines : Bool → Tally → Bool
has_lines empty t = not empty && not (eqb t.lines 0)

abbrev pub has_prompts : Bool → Tally → Bool
has_prompts empty t = has_lines empty t && eqb t.bare 0

abbrev pub sum_differs : Bool → Tally → ℕ → Bool
sum_differs empty t measures = has_lines empty t && not (eqb t.sum measures)

abbrev pub with_section : Sums → Counts → ℕ → Bool → Sums
with_section x c l b =
    record { sections = x.sections + 1; measures = x.measures + c.measures; beats = x.beats + c.beats; lines = x.lines + l; all = x.all && b }

unfoldable pub totals_of : Sums → Totals
unfolding provided◌then◌else◌
totals_of x =
    record {
      sections = x.sections;
      measures = x.measures;
      beats = x.beats;
      items = provided x.all then x.lines else 0;
    }

-- The numbers are the lengths of the tables.
pub record Holds (t : Tables) (r : Totals) : Type 0 where
  pub sections : r.sections ≡ length t.sections
  pub measures : r.measures ≡ length t.measures
  pub beats : r.beats ≡ length t.beats
  pub items : r.items ≡ length t.items
