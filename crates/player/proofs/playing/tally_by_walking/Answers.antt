-- Every beat is passed over, so that what is missing of the pen counts.
use Rattle.player.proofs.SectionLaws.{tallied}
use Rattle.player.proofs.ShortLaws.{short_times, short_row}
use Rattle.player.specs.Arrangements.{repeated_row}
use Rattle.std.proofs.Common.{arith}
use Rattle.player.proofs.playing.tally_by_walking.Goals as goal

pub overflow_sub-result : goal.overflow_sub-result
overflow_sub-result c =
    let a = c.args in
    let x = a.a in
    let short = short_times x.repeat _ (short_row x.n a.words.now c.requires.0 x.pattern) in
    let t = tallied (repeated_row a.words.now x) a.k _ _ _ _ _ short c.requires.1
    c.rounds.ensures.played in
    omega (arith, t.0)

pub overflow_sub-result-2 : goal.overflow_sub-result-2
overflow_sub-result-2 c =
    let a = c.args in
    let x = a.a in
    let short = short_times x.repeat _ (short_row x.n a.words.now c.requires.0 x.pattern) in
    let t = tallied (repeated_row a.words.now x) a.k _ _ _ _ _ short c.requires.1
    c.rounds.ensures.played in
    omega (arith, t.1)

pub returns : goal.returns
returns c =
    let a = c.args in
    let x = a.a in
    let short = short_times x.repeat _ (short_row x.n a.words.now c.requires.0 x.pattern) in
    let t = tallied (repeated_row a.words.now x) a.k _ _ _ _ _ short c.requires.1
    c.rounds.ensures.played in record {
      measures = omega (arith, t.0);
      beats = omega (arith, t.1, t.2);
      bound = omega (arith, t.1, t.2);
    }
