-- The slip is kept unless the refusal is 17; then the stages before found nothing, and only the numbers change, not clause or place.
use mathlib.Core.Path.{refl, ◌≡◌}
use native.Mathlib.Omega.{arith}
use Rattle.refusals.specs.Names.{number_of}
use Rattle.reader.specs.Room.{refused_with}
use Rattle.explain.proofs.StageLaws.{sum_playable}
use Rattle.explain.proofs.FirstLaws.{as_refused}
use Rattle.explain.proofs.with_sums.Goals as goal

pub sums_at-t-requires : goal.sums_at-t-requires
sums_at-t-requires c =
    let e = c.args.e in
    let text = c.args.text.now in
    let refused = as_refused text (refused_with (number_of e.why) e.line) c.requires.0 17 (rw c.in-CountSum.is refl) (λ z. let y : ⊥ = omega arith in y) in
    let p = sum_playable text e.line refused in
    (p, omega (arith, p.small, c.requires.1))

pub returns-in-CountSum : goal.returns-in-CountSum
returns-in-CountSum c =
    let k : number_of c.args.e.why ≡ 17 = rw c.in-CountSum.is refl in (
      λ t f.
          record {
            ruled = λ e. let z : ⊥ = omega arith in absurd z;
            misfit = λ e. let z : ⊥ = omega arith in absurd z;
            stray = λ e. let z : ⊥ = omega arith in absurd z;
            uncounted = λ e. let z : ⊥ = omega arith in absurd z;
            summed = f.summed;
          },
      refl,
      refl,
      refl,
      λ e. c.sums_at-t.ensures,
    )
