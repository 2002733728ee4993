-- No exported call can be emptied: what it is lent fixes what it returns and every word that it writes, whatever meets its promise. Of an
-- explanation the verdict is fixed; its cause and its place are bounded.
use Rattle.std.specs.Prelude.{ℕ, ◌≡◌, List, ℤ}
use Rattle.reader.specs.Answers.{Lent}
use Rattle.turnipcart.specs.Answers.{answer_in, found_in, explained_in, copied_in}
use Rattle.turnipcart.specs.Answers.{ReadsChart, CountsChart, FindsBeat, LightsCues, Moves, ExplainsChart, CopiesChart}

pub record OneOutcome : Type 0 where
  pub read : (text : List ℕ) (before : Lent) (r q : ℕ) (x y : List ℕ) (a b : Lent) → ReadsChart text before r x a → ReadsChart text before q y b
      → (r ≡ q) × (answer_in x ≡ answer_in y) × (a ≡ b)
  pub counted : (text : List ℕ) (r q : ℕ) (x y : List ℕ) → CountsChart text r x → CountsChart text q y → (r ≡ q) × (answer_in x ≡ answer_in y)
  pub found : (measures : List ℕ) (beat r q : ℕ) (x y : List ℕ) → FindsBeat measures beat r x → FindsBeat measures beat q y
      → (r ≡ q) × (found_in x ≡ found_in y)
  pub lit : (sections measures before : List ℕ) (r q d e : ℕ) (x y : List ℕ) → LightsCues sections measures before r d x
      → LightsCues sections measures before q e y → (r ≡ q) × (d ≡ e) × (x ≡ y)
  pub moved : (move : ℤ) (beats before : List ℕ) (r q : ℕ) (x y : List ℕ) → Moves move beats before r x → Moves move beats before q y → (r ≡ q) × (x ≡ y)
  pub copied : (text before : List ℕ) (r q : ℕ) (x y a b : List ℕ) → CopiesChart text before r x a → CopiesChart text before q y b
      → (r ≡ q) × (copied_in x ≡ copied_in y) × (a ≡ b)
  pub explained : (text : List ℕ) (r q : ℕ) (x y : List ℕ) → ExplainsChart text r x → ExplainsChart text q y
      → (r ≡ q) × ((explained_in x).refusal ≡ (explained_in y).refusal) × ((explained_in x).line ≡ (explained_in y).line)
