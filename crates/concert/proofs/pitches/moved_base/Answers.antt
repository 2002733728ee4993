-- The table's root is that of the chord, twelve more where it is minor, and at the moved root stands the sharp name of that quality.
use Rattle.concert.proofs.BaseLaws.{root_at, base_rooted, major_moved, minor_moved}
use Rattle.concert.specs.Pitches.{moved_root}
use mathlib.Core.Path.{ap, ◌∙◌}
use Prim.Native.Nat.{◌-◌}
use lib.IntN.{ℤ}
use mir.Facts.{to_z-of_z}
use native.Mathlib.Omega.{arith}
use Rattle.concert.proofs.pitches.moved_base.Goals as goal

pub returns-then-root-lt12 : goal.returns-then-root-lt12
returns-then-root-lt12 c =
    let a = c.args in
    major_moved a.shift a.base c.moved_root.result c.requires.base_bound c.if-root-lt12.true
    (c.moved_root.ensures.value ∙ ap (λ (z : ℤ). moved_root z (root_at a.base)) (to_z-of_z c.ranges.shift))

pub moved_root-requires-else-root-lt12 : goal.moved_root-requires-else-root-lt12
moved_root-requires-else-root-lt12 c =
    let s = (base_rooted c.args.base c.requires.base_bound).small in record {
      root_bound = omega arith;
      shift_value = rw (to_z-of_z c.ranges.shift) c.requires.shift_value;
    }

pub returns-else-root-lt12 : goal.returns-else-root-lt12
returns-else-root-lt12 c =
    let a = c.args in
    minor_moved a.shift a.base c.moved_root-else-root-lt12.result c.requires.base_bound c.if-root-lt12.false
    (c.moved_root-else-root-lt12.ensures.value ∙ ap (λ (z : ℤ). moved_root z (root_at a.base - 12)) (to_z-of_z c.ranges.shift))
