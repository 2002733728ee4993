-- A test of two: what the first one found decides, or leaves it to the second.
use mathlib.Core.Path.{◌≡◌, refl}
use mathlib.Core.Bool.{Bool, true, false, ◌||◌}

module _ {r t : Bool} (e : r ≡ t) where
  pub or_passes : (b : Bool) → r ≡ true → true ≡ (t || b)
  or_passes b h = rw (← e, h) refl

  pub or_fails : (b : Bool) → r ≡ false → b ≡ (t || b)
  or_fails b h = rw (← e, h) refl
