-- Only the entry that is set can hold a new number; where no entry is free all stays as it was.
use mathlib.Core.Path.{refl}
use Rattle.slips.proofs.ReferLaws.{one_remembered}
use Rattle.slips.proofs.referring.remember.Goals as goal

pub returns : goal.returns
returns c =
    let a = c.args in
    (refl, λ n i. one_remembered a.x.meant c.in-Some.i a.new n i)
