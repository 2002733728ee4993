-- The row and the place of a base chord in the rows as the code keeps them, by its number: one test, computed for all 34.
use Prim.Native.Nat.{ℕ, ◌-◌, ◌<◌, ◌≤◌}
use mathlib.Core.Path.{◌≡◌, refl}
use mathlib.Core.List.{List, [], ◌∷◌, map}
use mathlib.Core.Bool.{Bool, true, ◌&&◌}
use borrow.Author.Tests.{leb-true}
use lib.Dec.{leb}
use lib.ListN.{get_or}
use Rattle.songcode.specs.Lists.{provided◌then◌else◌}
use Rattle.songcode.specs.Bytes.{same, ascii}
use Rattle.songcode.specs.Answer.Chords.{rows, spellings, spelling_of}
use Rattle.songcode.proofs.ListLaws.{both_pass}
use Rattle.songcode.proofs.Spellings.{same_true}
use Rattle.songcode.proofs.EachBelow.{all_below, each_below}
use Rattle.tokens.specs.Bases.{unpadded, first_of, row_of_number}

-- The code's table: the rows of songcode, each spelling padded to three bytes and each row to six spellings.
abbrev three : List ℕ → List ℕ
three n = get_or n 0 0 ∷ get_or n 1 0 ∷ get_or n 2 0 ∷ []

abbrev six : List (List ℕ) → List (List ℕ)
six l = get_or l 0 [] ∷ get_or l 1 [] ∷ get_or l 2 [] ∷ get_or l 3 [] ∷ get_or l 4 [] ∷ get_or l 5 [] ∷ []

abbrev pub table : List (List (List ℕ))
unfolding rows spellings ascii
table = map (λ r. map three (six (spellings r))) rows

-- A number stands in its row, and its spelling at its place there.
unfoldable pub stands : ℕ → Bool
stands n =
    leb (row_of_number n) 6
    && (leb (first_of (row_of_number n)) n
    && (leb (n - first_of (row_of_number n)) 5
    && same (unpadded (get_or (get_or table (row_of_number n) []) (n - first_of (row_of_number n)) [])) (spelling_of n)))

each_stands : (n : ℕ) → n < 34 → stands n ≡ true
unfolding stands all_below row_of_number first_of unpadded same spelling_of provided◌then◌else◌ rows spellings ascii
each_stands = each_below stands 34 refl

-- What the test says.
pub record Stands (n : ℕ) : Type 0 where
  pub row : row_of_number n ≤ 6
  pub first : first_of (row_of_number n) ≤ n
  pub place : n - first_of (row_of_number n) ≤ 5
  pub spelled : unpadded (get_or (get_or table (row_of_number n) []) (n - first_of (row_of_number n)) []) ≡ spelling_of n

pub number_stands : (n : ℕ) → n < 34 → Stands n
unfolding stands
number_stands n h =
    let a = both_pass _ _ (each_stands n h) in
    let b = both_pass _ _ a.1 in
    let c = both_pass _ _ b.1 in
    record { row = leb-true _ _ a.0; first = leb-true _ _ b.0; place = leb-true _ _ c.0; spelled = same_true _ _ c.1 }
