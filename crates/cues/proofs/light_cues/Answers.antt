-- The three tests in the order of the refusals settle which is given; where all pass, the starts and the end are those that are written.
use native.Mathlib.Omega.{arith}
use Rattle.songcode.specs.Lists.{provided◌then◌else◌}
use Rattle.cues.specs.Cues.{refusal_of}
use Rattle.cues.specs.Answers.{lit_by, cues_by}
use Rattle.cues.proofs.light_cues.Goals as goal

pub returns-then-not-join_up : goal.returns-then-not-join_up
unfolding refusal_of provided◌then◌else◌ lit_by cues_by
returns-then-not-join_up c = grind arith

pub returns-then-not-are_timed : goal.returns-then-not-are_timed
unfolding refusal_of provided◌then◌else◌ lit_by cues_by
returns-then-not-are_timed c = grind arith

pub returns-then-cues-measures : goal.returns-then-cues-measures
unfolding refusal_of provided◌then◌else◌ lit_by cues_by
returns-then-cues-measures c = grind arith

pub returns : goal.returns
unfolding refusal_of provided◌then◌else◌ lit_by cues_by
returns c = grind arith
