-- A text that is too long is promised nothing; any other is looked into, by the number of what it is refused for.
use native.Mathlib.Omega.{arith}
use Rattle.explain.proofs.slip_in.Goals as goal

pub returns-then-text-gt-TEXT_MOST : goal.returns-then-text-gt-TEXT_MOST
returns-then-text-gt-TEXT_MOST c = let t = c.if-text-gt-TEXT_MOST.true in λ h. let z : ⊥ = omega arith in absurd z

pub returns : goal.returns
returns c = λ _. rw (← c.from.ensures) c.find_slip.ensures
