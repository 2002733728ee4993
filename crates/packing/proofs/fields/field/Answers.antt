-- A mask of so many ones keeps the remainder by the power of two behind them.
use Prim.Native.Nat.{◌-◌, ◌/◌, ◌^◌}
use mathlib.Core.Path.{ap, ◌∙◌}
use lib.Bits.{bit_and}
use Rattle.std.proofs.lemmas.Nat.{and_mask, one_shl}
use Rattle.packing.proofs.fields.field.Goals as goal

pub returns : goal.returns
returns c =
    let part = c.args.word / 2 ^ c.args.from in
    ap (λ m. bit_and part (m - 1)) (one_shl c.args.bits 64 c.requires.1) ∙ and_mask part c.args.bits
