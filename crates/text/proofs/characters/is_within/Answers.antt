-- The library's test of a range is that of the definition.
use Prim.Native.Nat.{ℕ}
use mathlib.Core.Path.{◌≡◌, refl, ◌∙◌}
use mathlib.Core.Bool.{◌&&◌}
use native.Mathlib.Omega.{arith}
use lib.Dec.{leb}
use Rattle.std.proofs.lemmas.Bool.Decides.{nat_tests}
use Rattle.std.specs.Ordering.{nat_cmp, is_le}
use Rattle.songcode.specs.Answer.Characters.{within}
use Rattle.text.proofs.characters.is_within.Goals as goal

le_cmp : (x y : ℕ) → is_le (nat_cmp x y) ≡ leb x y
le_cmp x y = grind (arith, nat_tests)

both : (low high b : ℕ) → (is_le (nat_cmp low b) && is_le (nat_cmp b high)) ≡ within low high b
unfolding within
both low high b = rw (le_cmp low b, le_cmp b high) refl

pub returns : goal.returns
returns c = c.contains.ensures.value ∙ rw (c.new.ensures.start, c.new.ensures.end, c.new.ensures.exhausted) (both c.args.low c.args.high c.args.b)
