-- How far the bytes in front of a text pass a test.
use Rattle.std.specs.Prelude.{ℕ, suc, List, [], ◌∷◌, Bool, not, eqb}
use Rattle.songcode.specs.Lists.{provided◌then◌else◌}
use Rattle.text.specs.Spans.{blank}

unfoldable pub passing : (ℕ → Bool) → List ℕ → ℕ
unfolding provided◌then◌else◌
passing p [] = 0
passing p (b ∷ bs) = provided p b then suc (passing p bs) else 0

-- Up to the first blank; up to the first byte of a value.
abbrev pub word_length : List ℕ → ℕ
word_length bs = passing (λ b. not (blank b)) bs

abbrev pub length_before : ℕ → List ℕ → ℕ
length_before c bs = passing (λ b. not (eqb b c)) bs
