-- From 13 on no setting is owed; below, the line is not empty, and its setting begins behind the name and ends with the line.
use Rattle.sections.proofs.SlotLaws.{says_line}
use native.Mathlib.Omega.{arith}
use Rattle.sections.proofs.slots.said_on.Goals as goal

pub returns-then-slot-ge-SLOTS : goal.returns-then-slot-ge-SLOTS
returns-then-slot-ge-SLOTS c = record { setting = λ below. let z : ⊥ = omega arith in absurd z; inside = Prim.tt }

pub returns : goal.returns
returns c = let a = c.args in
    record {
      setting = λ below. says_line a.s.now a.n a.a a.e c.setting_start.result c.setting_start.ensures.0;
      inside = (omega arith, omega arith);
    }
