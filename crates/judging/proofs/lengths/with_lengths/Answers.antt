-- What was refused before is passed up; else at most 65,535 measures stand before, so the section's have room to be added and judged.
use Prim.Native.Nat.{ℕ, ◌≤◌}
use mathlib.Core.Path.{◌≡◌, refl, ◌∙◌}
use native.Mathlib.Omega.{arith}
use Rattle.std.specs.Prelude.{Result, Ok, Err, IfOk, IsErrAnd}
use Rattle.refusals.specs.declared.Refusal.{Refusal}
use Rattle.judging.specs.Lengths.{with_lengths}
use Rattle.judging.proofs.CountLaws.{count_small}
use Rattle.judging.proofs.lengths.with_lengths.Goals as goal

passed : {r x : Result ℕ Refusal} {e : Refusal} → IsErrAnd r (λ y. y ≡ e) → x ≡ Err e → r ≡ x
passed {r = Ok k} is h = absurd is
passed {r = Err y} is h = rw (is, h) refl

few : {x : Result ℕ Refusal} {k : ℕ} → IfOk x (λ j. j ≤ 65535) → x ≡ Ok k → k ≤ 65535
few h e = rw e at h

pub returns-in_err-measures : goal.returns-in_err-measures
unfolding with_lengths
returns-in_err-measures c = passed c.from_residual.ensures.1 c.in_err-measures.was ∙ rw c.in_err-measures.was

pub section_count-requires : goal.section_count-requires
section_count-requires c = let h = c.requires.0 in (h.repeat, h.lead, h.pattern, h.tail)

pub overflow_add-measures : goal.overflow_add-measures
overflow_add-measures c =
    let h = c.requires.0 in
    omega (
      arith,
      count_small c.args.m c.args.t h.repeat h.lead h.pattern h.tail,
      few c.requires.1 c.in_ok-measures.was,
      c.section_count.ensures,
    )

pub length_fault-requires : goal.length_fault-requires
length_fault-requires c = (c.requires.0, omega (arith, c.section_count.ensures))

pub returns : goal.returns
unfolding with_lengths
returns c = rw (c.in_ok-measures.was, ← c.section_count.ensures) c.length_fault.ensures
