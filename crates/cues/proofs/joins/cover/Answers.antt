-- Section by section: all cover if those left do from the measure reached, and that is at most the sum of two fields of 16 bits.
use native.Mathlib.Omega.{arith}
use lib.ListN.{drop_of_length-le}
use lib.Seq.{drop-cons}
use Rattle.std.proofs.lemmas.Grind.{common_steps}
use Rattle.songcode.specs.Description.Joined.{covers}
use Rattle.packing.proofs.RoundTrips.{section_fields}
use Rattle.cues.proofs.joins.cover.Goals as goal

pub returns-then-section-first : goal.returns-then-section-first
unfolding covers
returns-then-section-first c =
    let f = section_fields c.section_of-section.ensures in
    let d = drop-cons c.args.sections.now c.loop-word.word-index 0 c.loop-word-test.true in
    grind (arith, common_steps, f, d)

pub loop-word-preserved : goal.loop-word-preserved
unfolding covers
loop-word-preserved c =
    let f = section_fields c.section_of-section.ensures in
    let d = drop-cons c.args.sections.now c.loop-word.word-index 0 c.loop-word-test.true in
    grind (arith, common_steps, f, d)

pub returns : goal.returns
unfolding covers
returns c =
    let d = drop_of_length-le c.args.sections.now {i = c.loop-word.word-index} c.loop-word-test.false in
    grind (arith, common_steps, d)
