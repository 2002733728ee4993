-- What is left behind the name is a part, and what is left of that behind its blanks is one too, with the same end.
use native.Mathlib.Omega.{arith}
use Rattle.settings.proofs.PartLaws.{setting_part}
use Rattle.settings.proofs.parts.setting_start.Goals as goal

pub returns : goal.returns
returns c = let a = c.args in (
  setting_part a.s.now a.a a.e c.word_length.result c.front_blanks.result c.word_length.ensures.0
      c.front_blanks.ensures.0,
  omega arith,
  omega arith,
)
