-- Silence stays; any other word that is not odd has a base below 34, which is moved to such a base, and the bits behind it stay.
use Prim.Native.Nat.{◌%◌, ◌*◌, ◌+◌}
use mathlib.Core.Path.{sym, ap, ◌∙◌}
use native.Mathlib.Omega.{arith}
use lib.IntN.{ℤ}
use mir.Facts.{to_z-of_z}
use Rattle.songcode.specs.Lists.{provided◌then◌else◌}
use Rattle.concert.specs.Moves.{base_in, behind_base, is_odd, moved_word}
use Rattle.concert.proofs.WordLaws.{moved_listed, chord_moves}
use Rattle.concert.specs.Pitches.{moved_base}
use Rattle.concert.proofs.tables.moved_word.Goals as goal

pub returns-then-base-eq-SILENCE : goal.returns-then-base-eq-SILENCE
unfolding moved_word base_in provided◌then◌else◌
returns-then-base-eq-SILENCE c = grind arith

pub moved_base-requires-clause-base_bound : goal.moved_base-requires-clause-base_bound
unfolding is_odd base_in
moved_base-requires-clause-base_bound c = grind arith

pub with_base-requires : goal.with_base-requires
with_base-requires c =
    let listed = moved_listed c.args.shift c.beat_base-base.result in
    let shift = to_z-of_z c.ranges.shift in
    grind (arith, listed, shift)

pub returns-else-base-eq-SILENCE : goal.returns-else-base-eq-SILENCE
unfolding base_in behind_base
returns-else-base-eq-SILENCE c =
    let a = c.args in
    let e = c.moved_base.ensures ∙ ap (λ (z : ℤ). moved_base z c.beat_base-base.result) (to_z-of_z c.ranges.shift)
    ∙ ap (moved_base a.shift) c.beat_base-base.ensures in
    c.with_base.ensures ∙ ap (λ b. b * 67108864 + a.word % 67108864) e
    ∙ sym (chord_moves a.shift a.word (rw c.beat_base-base.ensures at c.if-base-eq-SILENCE.false))
