-- What is found of a line's tokens at a place.
use Rattle.std.specs.Prelude.{ℕ, ◌+◌, ◌<◌, ◌≤◌, ◌≡◌, List, [], ◌∷◌, Option, MatchOption}
use Rattle.songcode.specs.Answer.Tokens as songcode
use Rattle.text.specs.Spans.{part, front_blanks}
use Rattle.tokens.specs.TokenWords.{token_word}
use Rattle.tokens.specs.Fitting.{Fit}
use Rattle.tokens.specs.Lexing.{tokens_from}
use Rattle.slips.specs.declared.signs.Token.{Token}

-- The first token from a place on: it begins behind the blanks there, nothing stands before it, and wherever the part ends, from its end on, it is the first.
pub record TokenAt (s : List ℕ) (at to : ℕ) (r : Token) : Type 0 where
  pub token : songcode.Token
  pub fits : Fit token
  pub word : r.word ≡ token_word token
  pub begins : r.from ≡ at + front_blanks (part at to s)
  pub solid : r.from < r.next
  pub blanks : (k : ℕ) → r.from ≤ k → k ≤ to → tokens_from at k s ≡ tokens_from r.from k s
  pub first : (k : ℕ) → r.next ≤ k → k ≤ to → tokens_from at k s ≡ token ∷ tokens_from r.next k s

-- It, or that there is none.
abbrev pub Takes : List ℕ → ℕ → ℕ → Option Token → Type 0
Takes s at to r = MatchOption r (tokens_from at to s ≡ []) (λ t. TokenAt s at to t)
