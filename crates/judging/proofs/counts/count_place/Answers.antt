-- A count of 0 has no place; any other begins as many bytes before its line's end as it has digits, which have room there.
use Prim.Native.Nat.{ℕ, zero, suc, ◌-◌}
use mathlib.Core.Path.{◌≡◌, refl, ap}
use native.Mathlib.Omega.{arith}
use lib.ListN.{length}
use Rattle.songcode.specs.Seams.{number_written}
use Rattle.text.specs.declared.lines.Line.{Line}
use Rattle.judging.specs.Counts.{no_count, count_ending}
use Rattle.judging.proofs.counts.count_place.Goals as goal

no_count_here : (line stop n : ℕ) → n ≡ 0 → no_count ≡ count_ending line stop n
unfolding count_ending
no_count_here line stop zero e = refl
no_count_here line stop (suc n) e = let z : ⊥ = omega arith in absurd z

some_count : (line stop n : ℕ) → (n ≡ 0 → ⊥) → {d e : ℕ} → d ≡ length (number_written n) → e ≡ stop
    → record { line = line; start = e - d; digits = d; count = n } ≡ count_ending line stop n
unfolding count_ending
some_count line stop zero h a b = absurd (h refl)
some_count line stop (suc n) h a b = rw (a, b) refl

pub returns-then-l-eq0 : goal.returns-then-l-eq0
returns-then-l-eq0 c = let l = c.args.l in no_count_here l.number _ l.count c.if-l-eq0.true

pub overflow_sub-start : goal.overflow_sub-start
overflow_sub-start c =
    let stop = ap (λ (l : Line). l.stop) c.line_at-line.ensures.is in
    omega (arith, c.requires.fits c.if-l-eq0.false, c.digits_of-digits.ensures)

pub returns : goal.returns
returns c =
    let l = c.args.l in
    let stop = ap (λ (l : Line). l.stop) c.line_at-line.ensures.is in
    some_count l.number _ l.count c.if-l-eq0.false c.digits_of-digits.ensures stop

pub digits_of-digits-requires : goal.digits_of-digits-requires
digits_of-digits-requires c = c.requires.few
