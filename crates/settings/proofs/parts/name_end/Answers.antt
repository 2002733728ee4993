-- A name is taken up to the first blank, and so many bytes in front of a part are a part again.
use native.Mathlib.Omega.{arith}
use Rattle.settings.proofs.PartLaws.{name_part}
use Rattle.settings.proofs.parts.name_end.Goals as goal

pub returns : goal.returns
returns c = let a = c.args in (
  name_part a.s.now a.a a.e c.word_length.result c.word_length.ensures.0
      (omega arith),
  omega arith,
  omega arith,
)
