-- The test is that of the definition.
use Rattle.std.proofs.Common.{◌≡◌, ℕ, ◌≤◌, eqb, arith}
use mir.Val.{bool_byte}
use mathlib.Core.Bool.{not}
use Rattle.player.specs.Signs.{sounds_as}
use Rattle.songcode.specs.Lists.{provided◌then◌else◌}
use Rattle.songcode.proofs.ListLaws.{by_cases}
use Rattle.player.proofs.leaves.sounds.Goals as goal

one_but : (k n : ℕ) → n ≡ bool_byte (not (eqb k 61)) → (n ≡ sounds_as k) × (n ≤ 1)
unfolding sounds_as provided◌then◌else◌
one_but k n e =
    by_cases (eqb k 61) (λ q. let z : n ≡ 0 = rw q at e in (rw (q, z), omega arith)) (λ q. let z : n ≡ 1 = rw q at e in (rw (q, z), omega arith))

pub returns : goal.returns
returns c = one_but c.args.k c.from.result c.from.ensures
