-- Finding a definition, one head after another.
use Prim.Native.Nat.{ℕ, suc, ◌+◌, ◌-◌, ◌<◌, ◌≤◌}
use mathlib.Core.Path.{◌≡◌}
use mathlib.Core.List.{List}
use native.Mathlib.Omega.{arith}
use borrow.Author.Tests.{eq-eqb, ne_eqb}
use Rattle.songcode.specs.Lists.{provided◌then◌else◌}
use Rattle.score.specs.Places.{length_at, id_at, place_by}

some_left : (n i : ℕ) → i < n → n - i ≡ suc (n - (i + 1))
some_left n i h = omega arith

pub place_at_mark : (ws : List ℕ) (n i at x : ℕ) → i < n → length_at ws at ≡ 0 → place_by (n - i) ws at x ≡ at
unfolding place_by provided◌then◌else◌
place_at_mark ws n i at x h e = rw (some_left n i h, eq-eqb (length_at ws at) 0 e)

pub place_found : (ws : List ℕ) (n i at x : ℕ) → i < n → (length_at ws at ≡ 0 → ⊥) → id_at ws at ≡ x → place_by (n - i) ws at x ≡ at
unfolding place_by provided◌then◌else◌
place_found ws n i at x h z e = rw (some_left n i h, ne_eqb (length_at ws at) 0 z, eq-eqb (id_at ws at) x e)

pub place_more : (ws : List ℕ) (n i at x : ℕ) → i < n → (length_at ws at ≡ 0 → ⊥) → (id_at ws at ≡ x → ⊥)
    → place_by (n - i) ws at x ≡ place_by (n - (i + 1)) ws (at + length_at ws at) x
unfolding place_by provided◌then◌else◌
place_more ws n i at x h z e = rw (some_left n i h, ne_eqb (length_at ws at) 0 z, ne_eqb (id_at ws at) x e)

pub place_over : (ws : List ℕ) (n i at x : ℕ) → n ≤ i → place_by (n - i) ws at x ≡ at
unfolding place_by
place_over ws n i at x h = let e : n - i ≡ 0 = omega arith in rw e
