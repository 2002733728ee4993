-- `section_of` meets its contract: from each field's bit on stand that field and the ones above it.
use Prim.Native.Nat.{◌^◌}
use native.Mathlib.Omega.{arith}
use Rattle.songcode.specs.Answer.Tables.{section_word}
use Rattle.packing.proofs.Bits.{field_and_above}
use Rattle.packing.proofs.fields.section_of.Goals as goal

pub returns : goal.returns
unfolding section_word
returns c =
    let word = c.args.word in
    record {
      packed =
          omega (
            arith,
            field_and_above word (2 ^ 31) (2 ^ 16),
            field_and_above word (2 ^ 15) (2 ^ 16),
            field_and_above word (2 ^ 9) (2 ^ 6),
          );
      header_fits = omega arith;
      first_fits = omega arith;
      measures_fits = omega arith;
      meter_fits = omega arith;
      tempo_fits = omega arith;
    }
