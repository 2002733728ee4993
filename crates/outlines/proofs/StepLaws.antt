-- A word that is no reference is read by the step of its kind, and a chord is a position.
use Prim.Native.Nat.{ℕ, ◌<◌}
use mathlib.Core.Path.{◌≡◌, refl, ap, ◌∙◌}
use mathlib.Core.List.{List}
use mathlib.Core.Bool.{true}
use native.Mathlib.Omega.{arith}
use borrow.Author.Tests.{ne_eqb, lt-ltb}
use Rattle.songcode.specs.Lists.{provided◌then◌else◌}
use Rattle.tokens.specs.Signs.{kind_of, is_position}
use Rattle.outlines.specs.declared.readings.Outline.{Outline}
use Rattle.outlines.specs.declared.readings.Reading.{Reading}
use Rattle.outlines.specs.Readings.{sounded, Nested, nested, step_of, word_read}

-- A position.
step_position : (s r : Reading) (a : List ℕ) (w k : ℕ) → k ≡ kind_of w → is_position k ≡ true → r ≡ sounded k s → nested r a ≡ step_of (nested s a) w
unfolding step_of provided◌then◌else◌
step_position s r a w k e h g =
    let t : is_position (kind_of w) ≡ true = rw e at h in
    rw t (ap (λ (x : Reading). nested x a) (g ∙ ap (λ y. sounded y s) e))

pub read_other : (find : ℕ → Outline) (h r : Nested) (w k : ℕ) → k ≡ kind_of w → (k ≡ 55 → ⊥) → r ≡ step_of h w → r ≡ word_read find h w
unfolding word_read provided◌then◌else◌
read_other find h r w k e n g = let t = ne_eqb (kind_of w) 55 (λ z. n (e ∙ z)) in rw t g

-- A chord's kind is that of a position and not that of a reference.
pub read_chord : (find : ℕ → Outline) (s r : Reading) (a : List ℕ) (w k : ℕ) → k ≡ kind_of w → k < 34 → r ≡ sounded k s
    → nested r a ≡ word_read find (nested s a) w
unfolding is_position
read_chord find s r a w k e h g =
    let p : is_position k ≡ true = rw (lt-ltb k 34 h) refl in
    read_other find (nested s a) (nested r a) w k e (λ z. omega arith) (step_position s r a w k e p g)
