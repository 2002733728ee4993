-- No setting is no time, which is 0; the text of one is read wherever it stands, and no time is above 32.
use Rattle.sections.proofs.ValueLaws.{said_otherwise, said_number, time_range}
use Rattle.sections.specs.Values.{time_said}
use Rattle.settings.proofs.ValueLaws.{time_in_placeless}
use Rattle.songcode.specs.Answer.Keys.{time_in}
use native.Mathlib.Omega.{arith}
use Prim.Native.Nat.{ℕ, ◌≤◌}
use Rattle.sections.proofs.values.time_said.Goals as goal

pub returns-in-None : goal.returns-in-None
unfolding time_said
returns-in-None c = (said_otherwise c.args.s.now time_in 0 c.in-None.is, omega arith)

pub returns-in-Some : goal.returns-in-Some
unfolding time_said
returns-in-Some c =
    said_number c.args.s.now time_in 0 (λ (r : ℕ). r ≤ 32) time_in_placeless (omega arith) time_range c.in-Some.is c.time_in.ensures c.unwrap_or.ensures
