-- The entry of the table is the length of a beat; at most 63 beats of at most 60,000,000 make a product that fits.
use Prim.Native.Nat.{ℕ, ◌*◌, ◌<◌, ◌≤◌}
use mathlib.Core.Path.{◌≡◌, refl, ◌∙◌}
use native.Mathlib.Omega.{arith}
use mathlib.Core.List.{List}
use lib.ListN.{get_or}
use Rattle.songcode.specs.Description.Joined.{beat_count}
use Rattle.cues.specs.Table.{IsTable}
use Rattle.cues.specs.Cues.{beat_length}
use native.Mathlib.Nat.{mul-le-mul}
use Rattle.packing.proofs.RoundTrips.{measure_fields}
use Rattle.cues.proofs.StartLaws.{beat_length_le}
use Rattle.cues.proofs.starts.length_of.Goals as goal

-- The entry of the table is the length of a beat.
entry : (table : List ℕ) (bpm : ℕ) → (bpm ≤ 400) × IsTable table → get_or table bpm 0 ≡ beat_length bpm
entry table bpm p = p.1.entry bpm (omega (arith, p.0))

product : (a b : ℕ) → a < 64 → b ≤ 60000000 → a * b ≤ 3780000000
product a b l m = let few : a ≤ 63 = omega arith in mul-le-mul few m

pub overflow_mul-result : goal.overflow_mul-result
overflow_mul-result c =
    let b = c.measure_of-measure.ensures.beats_fits in
    let t = beat_length_le c.args.bpm in
    let e = c.from.ensures ∙ entry c.args.table.now c.args.bpm c.requires in
    let p = product c.measure_of-measure.result.beats c.from.result b (rw e t) in
    record { fits = omega (arith, p) }

pub returns : goal.returns
returns c =
    let f = measure_fields c.measure_of-measure.ensures in
    let h = c.measure_of-measure.ensures.beats_fits in
    let e = c.from.ensures ∙ entry c.args.table.now c.args.bpm c.requires in
    let b = beat_length_le c.args.bpm in
    rw (f.1, e) (refl, product (beat_count c.args.word) (beat_length c.args.bpm) (rw (← f.1) h) b)
