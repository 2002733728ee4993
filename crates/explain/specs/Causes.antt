-- Causes as numbers: 100 times a refusal of "What stops a chart", and the number of one of its clauses.
use Rattle.std.specs.Prelude.{ℕ, ◌/◌, ◌%◌, ◌≤◌, ◌≡◌, List, [], ◌∷◌, get_or}

abbrev pub refusal_of_cause : ℕ → ℕ
refusal_of_cause cause = cause / 100

abbrev pub clause_of_cause : ℕ → ℕ
clause_of_cause cause = cause % 100

-- How many clauses each refusal has, from 0 (accepted) to 17; `include/turnipcart.h` names them in their order.
abbrev pub clauses : List ℕ
clauses = 0 ∷ 1 ∷ 2 ∷ 2 ∷ 4 ∷ 2 ∷ 3 ∷ 22 ∷ 9 ∷ 1 ∷ 1 ∷ 3 ∷ 1 ∷ 1 ∷ 1 ∷ 2 ∷ 4 ∷ 1 ∷ []

-- The cause is of this refusal, and one of its clauses, or no clause of it.
abbrev pub Belongs : ℕ → ℕ → Type 0
Belongs refusal cause = (refusal_of_cause cause ≡ refusal) × (clause_of_cause cause ≤ get_or clauses refusal 0)
