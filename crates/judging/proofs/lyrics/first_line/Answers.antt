-- No first number, no second, or the least of both.
use native.Mathlib.Omega.{arith}
use Prim.Native.Nat.{ℕ, min}
use mathlib.Core.Path.{◌≡◌, ◌∙◌}
use lib.Dec.{ltb}
use borrow.Author.Tests.{eq-eqb, ne_eqb, ltb-true, ltb-false}
use Rattle.songcode.proofs.ListLaws.{by_cases}
use Rattle.songcode.specs.Lists.{provided◌then◌else◌}
use Rattle.judging.specs.Lyrics.{first_line}
use Rattle.judging.proofs.lyrics.first_line.Goals as goal

least : (a b : ℕ) → min a b ≡ (provided ltb b a then b else a)
unfolding provided◌then◌else◌
least a b = by_cases (ltb b a) (λ t. let h = ltb-true b a t in rw t (omega arith)) (λ t. let h = ltb-false b a t in rw t (omega arith))

pub returns-then-a-eq0 : goal.returns-then-a-eq0
unfolding first_line provided◌then◌else◌
returns-then-a-eq0 c = rw (eq-eqb _ 0 c.if-a-eq0.true)

pub returns-then-b-eq0 : goal.returns-then-b-eq0
unfolding first_line provided◌then◌else◌
returns-then-b-eq0 c = rw (ne_eqb _ 0 c.if-a-eq0.false, eq-eqb _ 0 c.if-b-eq0.true)

pub returns-else-b-eq0 : goal.returns-else-b-eq0
unfolding first_line provided◌then◌else◌
returns-else-b-eq0 c = rw (ne_eqb _ 0 c.if-a-eq0.false, ne_eqb _ 0 c.if-b-eq0.false) (c.min.ensures ∙ least _ _)
