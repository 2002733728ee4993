-- `measure_of` meets its contract: from each field's bit on stand that field and the ones above it.
use Prim.Native.Nat.{◌^◌}
use native.Mathlib.Omega.{arith}
use Rattle.songcode.specs.Answer.Tables.{measure_word}
use Rattle.packing.proofs.Bits.{field_and_above}
use Rattle.packing.proofs.fields.measure_of.Goals as goal

pub returns : goal.returns
unfolding measure_word
returns c =
    let beats = field_and_above c.args.word (2 ^ 5) (2 ^ 6) in
    record {
      packed = omega arith;
      spare = omega arith;
      first_fits = omega arith;
      beats_fits = omega arith;
    }
