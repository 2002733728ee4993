-- The fields of the word are the model's, whose cases are: no measures, or a bpm from 1 to 400.
use native.Mathlib.Omega.{arith}
use Rattle.std.proofs.lemmas.Grind.{common_steps}
use Rattle.packing.proofs.RoundTrips.{section_fields}
use Rattle.cues.specs.Cues.{is_timed}
use Rattle.cues.proofs.joins.is_timed.Goals as goal

pub returns-then-section-eq0 : goal.returns-then-section-eq0
unfolding is_timed
returns-then-section-eq0 c = let f = section_fields c.section_of-section.ensures in grind (arith, f)

pub returns-else-section-eq0 : goal.returns-else-section-eq0
unfolding is_timed
returns-else-section-eq0 c = let f = section_fields c.section_of-section.ensures in grind (arith, f, common_steps)
