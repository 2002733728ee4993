-- The two cuts as two numbers.
use Rattle.std.proofs.Common.{refl, arith}
use Rattle.player.proofs.SectionLaws.{planned_is, tallied_all}
use Rattle.player.specs.Arrangements.{repeated_row}
use Rattle.player.proofs.playing.planned.Goals as goal

pub beats_but-last-requires : goal.beats_but-last-requires
beats_but-last-requires c =
    let few = c.tally-all.ensures.measures in (
      c.requires,
      omega arith,
      tallied_all
          (repeated_row c.args.words.now c.args.a) c.tally-all.result.measures c.tally-all.result.beats c.requires.measures few c.tally-all.ensures.beats,
      c.tally-all.ensures.bound,
    )

pub returns : goal.returns
returns c =
    let a = c.args.a in
    let w = planned_is (repeated_row c.args.words.now a) a.front a.back _ _ _ _ _ _ _ c.requires.measures
    c.tally-all.ensures.measures c.min.ensures
    c.beats_before.ensures.0 refl c.beats_but-last.ensures.0
    c.saturating_sub.ensures c.saturating_sub-2.ensures in record {
      todo = w.0;
      skip = w.1;
      left = w.2;
    }
