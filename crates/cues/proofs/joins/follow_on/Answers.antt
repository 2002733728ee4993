-- Measure by measure: the measures passed follow on, so all do if those that are left follow on from the beat reached.
use mathlib.Core.Path.{sym, ◌∙◌}
use native.Mathlib.Omega.{arith}
use lib.ListN.{drop_of_length-le}
use lib.Seq.{drop-cons}
use Rattle.std.proofs.lemmas.Grind.{common_steps}
use Rattle.songcode.specs.Lists.{every}
use Rattle.songcode.specs.Description.Joined.{measures_join, follows, is_short, end_beat}
use Rattle.packing.proofs.RoundTrips.{measure_fields}
use Rattle.cues.proofs.JoinLaws.{join_stops}
use Rattle.cues.proofs.joins.follow_on.Goals as goal

pub returns-then-measure-beat : goal.returns-then-measure-beat
returns-then-measure-beat c =
    let l = c.loop-word in
    let m = measure_fields c.measure_of-measure.ensures in
    sym (join_stops l.beat l.word-index _ c.loop-word-test.true (λ f a b. grind (arith, common_steps, m, f, a, b, c.then-measure-beat.branch)))
    ∙ l.invariant.1

pub loop-word-preserved : goal.loop-word-preserved
unfolding measures_join follows every is_short end_beat
loop-word-preserved c =
    let f = measure_fields c.measure_of-measure.ensures in
    let d = drop-cons c.args.measures.now c.loop-word.word-index 0 c.loop-word-test.true in
    grind (arith, common_steps, f, d)

pub returns : goal.returns
unfolding measures_join follows every is_short end_beat
returns c =
    let d = drop_of_length-le c.args.measures.now {i = c.loop-word.word-index} c.loop-word-test.false in
    grind (arith, common_steps, d)
