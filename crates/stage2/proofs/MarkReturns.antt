-- The returns of the functions on marks.
use Prim.Native.Nat.{ℕ, ◌<◌, ◌≤◌}
use mathlib.Core.Path.{◌≡◌, refl}
use mathlib.Core.List.{List}
use mathlib.Core.Bool.{Bool, true, false}
use borrow.Author.Tests.{lt-ltb, le-ltb}
use lib.ListN.{get_or, set}
use Rattle.songcode.specs.Lists.{provided◌then◌else◌}
use Rattle.songcode.specs.Complaints.{complain_if}
use Rattle.refusals.specs.Ranks.{none, least}
use Rattle.stage2.specs.States.{again, marked}

module _ (number k : ℕ) (marks : List Bool) (line : ℕ) where
  pub again_said : (r : ℕ) → k < 8 → r ≡ least (complain_if (get_or marks k false) number line) → r ≡ again number k marks line
  unfolding again provided◌then◌else◌
  again_said r h e = rw (lt-ltb k 8 h) e

  pub again_nothing : 8 ≤ k → none ≡ again number k marks line
  unfolding again provided◌then◌else◌
  again_nothing h = rw (le-ltb k 8 h) refl

module _ (k : ℕ) (marks : List Bool) where
  pub mark_put : k < 8 → set marks k true ≡ marked k marks
  unfolding marked provided◌then◌else◌
  mark_put h = rw (lt-ltb k 8 h) refl

  pub mark_not : 8 ≤ k → marks ≡ marked k marks
  unfolding marked provided◌then◌else◌
  mark_not h = rw (le-ltb k 8 h) refl
