-- `beat_of` meets its contract: from each field's bit on stand that field and the ones above it, and the head is told by its bit.
use Prim.Native.Nat.{◌^◌}
use native.Mathlib.Omega.{arith}
use Rattle.packing.specs.Fields.{packed_beat}
use Rattle.packing.proofs.Bits.{field_and_above, bit_told}
use Rattle.packing.proofs.fields.beat_of.Goals as goal

pub returns : goal.returns
unfolding packed_beat
returns c =
    let word = c.args.word in
    let extension = field_and_above word (2 ^ 10) (2 ^ 16) in
    let length = field_and_above word (2 ^ 5) (2 ^ 5) in
    let bit = field_and_above word (2 ^ 4) 2 in
    let head = bit_told c.field-4.result (omega arith) in
    record {
      packed = omega arith;
      spare = omega arith;
      base_fits = omega arith;
      extension_fits = omega arith;
      length_fits = omega arith;
    }
