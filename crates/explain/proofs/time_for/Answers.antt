-- Only 12 is promised a time; a verdict of 12 or 13 means that stage 2 found nothing, which the search for the time needs.
use mathlib.Core.Path.{refl}
use native.Mathlib.Omega.{arith}
use Rattle.refusals.specs.Names.{number_of}
use Rattle.reader.specs.Room.{refused_with}
use Rattle.explain.proofs.FirstLaws.{as_refused}
use Rattle.explain.proofs.MisfitThere.{misfit_clean, stray_clean}
use Rattle.explain.proofs.time_for.Goals as goal

pub time_at-requires : goal.time_at-requires
time_at-requires c =
    let e = c.args.e in
    let text = c.args.text.now in
    misfit_clean text (as_refused text (refused_with (number_of e.why) e.line) c.requires 12 (rw c.in-Division.is refl) (λ z. let y : ⊥ = omega arith in y))

pub time_at-requires-in-NoChordBefore : goal.time_at-requires-in-NoChordBefore
time_at-requires-in-NoChordBefore c =
    let e = c.args.e in
    let text = c.args.text.now in
    stray_clean text (as_refused text (refused_with (number_of e.why) e.line) c.requires 13 (rw c.in-NoChordBefore.is refl) (λ z. let y : ⊥ = omega arith in y))
