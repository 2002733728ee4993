-- Where nothing is said, 1; else the number that is read, the same wherever it stands, or 1, and both are in the range.
use Rattle.sections.proofs.ValueLaws.{said_otherwise, said_number, repeat_range}
use Rattle.sections.specs.Values.{repeat_said}
use Rattle.settings.proofs.NumberLaws.{repeat_in_placeless}
use Rattle.songcode.specs.Answer.Numbers.{repeat_in}
use native.Mathlib.Omega.{arith}
use Prim.Native.Nat.{ℕ, ◌≤◌}
use Rattle.sections.proofs.values.repeat_said.Goals as goal

pub returns-in-None : goal.returns-in-None
unfolding repeat_said
returns-in-None c = (said_otherwise c.args.s.now repeat_in 1 c.in-None.is, omega arith, omega arith)

pub returns-in-Some : goal.returns-in-Some
unfolding repeat_said
returns-in-Some c =
    let r = said_number c.args.s.now repeat_in 1 (λ (r : ℕ). (1 ≤ r) × (r ≤ 9999)) repeat_in_placeless (omega arith, omega arith) repeat_range
    c.in-Some.is c.repeat_in.ensures c.unwrap_or.ensures in
    (r.0, r.1.0, r.1.1)
