-- Without a setting it is 511, as where its text is no bpm; a bpm that is read is the same wherever it stands, and at most 400.
use Rattle.sections.proofs.ValueLaws.{said_otherwise, said_number, bpm_range}
use Rattle.sections.specs.Values.{bpm_said}
use Rattle.settings.proofs.ValueLaws.{bpm_in_placeless}
use Rattle.songcode.specs.Answer.Keys.{bpm_in}
use native.Mathlib.Omega.{arith}
use Prim.Native.Nat.{ℕ, ◌≤◌}
use Rattle.sections.proofs.values.bpm_said.Goals as goal

pub returns-in-None : goal.returns-in-None
unfolding bpm_said
returns-in-None c = (said_otherwise c.args.s.now bpm_in 511 c.in-None.is, omega arith)

pub returns-in-Some : goal.returns-in-Some
unfolding bpm_said
returns-in-Some c =
    said_number c.args.s.now bpm_in 511 (λ (r : ℕ). r ≤ 511) bpm_in_placeless (omega arith) bpm_range c.in-Some.is c.bpm_in.ensures c.unwrap_or.ensures
