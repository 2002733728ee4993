-- Pattern text against the rules is looked for on the line that the verdict names.
use mathlib.Core.Path.{◌≡◌, refl}
use native.Mathlib.Omega.{arith}
use Rattle.refusals.specs.Names.{number_of}
use Rattle.slips.proofs.RuledLaws.{ruled_found}
use Rattle.slips.proofs.texts.slip_of.Goals as goal

pub returns-in-BadPattern : goal.returns-in-BadPattern
returns-in-BadPattern c =
    let a = c.args in
    let p = c.spot_of-p in
    let k : number_of a.why ≡ 7 = rw c.in-BadPattern.is refl in
    record {
      ruled = λ e. ruled_found a.s.now a.line p.result p.ensures.line_value p.ensures.at_in_bounds c.pattern_slip.result c.pattern_slip.ensures;
      misfit = λ e. let z : ⊥ = omega arith in absurd z;
      stray = λ e. let z : ⊥ = omega arith in absurd z;
      uncounted = λ e. let z : ⊥ = omega arith in absurd z;
      summed = λ e. let z : ⊥ = omega arith in absurd z;
    }
