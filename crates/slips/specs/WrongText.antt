-- The text that a verdict of 7 is about.
use Rattle.std.specs.Prelude.{ℕ, List}
use Rattle.songcode.specs.Answer.Lines.{Line}
use Rattle.slips.specs.declared.patterns.Whose.{Whose}
use Rattle.slips.specs.Rules.{Right, text_tokens}
use Rattle.slips.specs.Finds.{TextOf}

-- "pattern text against the rules", named by its first line.
pub record WrongText (s : List ℕ) (line : ℕ) : Type 0 where
  pub whose : Whose
  pub lines : List Line
  pub named : TextOf s line whose lines
  pub wrong : Right whose (text_tokens lines) → ⊥
