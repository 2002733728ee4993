-- Rows whose measures all have as many beats.
use Rattle.std.specs.Prelude.{◌≡◌, ℕ, zero, suc, ◌+◌, ◌-◌, ◌/◌, List, [], ◌∷◌, length}

-- Each measure has n beats.
unfoldable pub Level : {A : Type 0} → ℕ → List (List A) → Type 0
Level n [] = Unit {0}
Level n (x ∷ xs) = (length x ≡ n) × Level n xs

-- There are k of them.
pub record Even (n k : ℕ) (row : List (List ℕ)) : Type 0 where
  pub size : length row ≡ k
  pub level : Level n row

-- How many measures of n beats hold the l beats behind the first s: from that of the first of them to that of the last.
unfoldable pub spanned : ℕ → ℕ → ℕ → ℕ
spanned n s zero = 0
spanned n s (suc l) = (s + l) / n - s / n + 1
