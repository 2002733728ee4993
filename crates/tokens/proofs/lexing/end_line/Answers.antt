-- Setting one word is what laying one means, so both promises hold by computing.
use mathlib.Core.Path.{refl}
use Rattle.tokens.proofs.lexing.end_line.Goals as goal

pub returns : goal.returns
returns c = record {
  held = refl;
  fill = refl;
}
