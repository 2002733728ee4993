-- Refusal 7: where the text that the verdict is about stops being right.
use Rattle.std.specs.Prelude.{ℕ, List}
use Rattle.slips.specs.Rules.{RuledIn}
use Rattle.slips.specs.WrongText.{WrongText}
use Rattle.explain.specs.declared.Explained.{Explained}
use Rattle.explain.specs.Causes.{clause_of_cause}

-- The text of a definition, a section, a lead-in or a tail that begins on the verdict's line, and the place in it.
pub record Stopped (text : List ℕ) (r : Explained) : Type 0 where
  pub about : WrongText text r.line
  pub ruled : RuledIn text about.whose about.lines (clause_of_cause r.cause) r.place.offset
