-- `item_of` meets its contract: from each field's bit on stand that field and the ones above it.
use Prim.Native.Nat.{◌^◌}
use native.Mathlib.Omega.{arith}
use Rattle.packing.proofs.Bits.{field_and_above}
use Rattle.packing.proofs.fields.item_of.Goals as goal

pub returns : goal.returns
returns c =
    let word = c.args.word in
    record {
      packed =
          omega (
            arith,
            field_and_above word (2 ^ 32) (2 ^ 16),
            field_and_above word (2 ^ 16) (2 ^ 16),
            field_and_above word (2 ^ 2) (2 ^ 14),
          );
      offset_fits = omega arith;
      length_fits = omega arith;
      first_fits = omega arith;
      measures_fits = omega arith;
      style_fits = omega arith;
    }
