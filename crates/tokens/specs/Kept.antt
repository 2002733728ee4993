-- Tokens that stage 2 keeps for the laying: the words of a line stand in the row behind a mark, eight words behind the place of its first byte.
use Rattle.std.specs.Prelude.{ℕ, ◌+◌, ◌*◌, ◌^◌, ◌≤◌, ◌≡◌, List, ◌∷◌, ◌⊎◌, length, take, drop, get_or}
use Rattle.std.proofs.lemmas.List.Edits.{sets}
use Rattle.text.specs.Spans.{line_length, solid_length}
use Rattle.tokens.specs.TokenWords.{token_words}
use Rattle.tokens.specs.Signs.{kind_of}
use Rattle.tokens.specs.Lexing.{tokens_from}

-- Where the text of the line that goes on at a place stops: behind its last byte that is no blank.
unfoldable pub line_stop : List ℕ → ℕ → ℕ
unfolding line_length solid_length
line_stop s a = a + solid_length (take (line_length (drop a s)) (drop a s))

-- The words of that text.
abbrev pub line_words : List ℕ → ℕ → List ℕ
line_words s a = token_words (tokens_from a (line_stop s a) s)

-- A mark: a kind that no token has, and how many words are kept behind it.
abbrev pub mark_word : ℕ → ℕ
mark_word n = 53 * 2 ^ 26 + n

-- A row in which words are kept for the line that begins at a place.
abbrev pub kept : ℕ → List ℕ → List ℕ → List ℕ
kept a new held = sets held (a + 8) (mark_word (length new) ∷ new)

-- What a mark says: so many words stand behind it, they are those of the line, and they end before a bound.
pub record KeptAt (s ws : List ℕ) (bound a : ℕ) : Type 0 where
  pub mark : get_or ws (a + 8) 0 ≡ mark_word (length (line_words s a))
  pub words : take (length (line_words s a)) (drop (a + 9) ws) ≡ line_words s a
  pub within : a + length (line_words s a) + 1 ≤ bound

-- Every mark of a row is right, from one of its words on.
pub record Kept (s ws : List ℕ) (from bound : ℕ) : Type 0 where
  pub right : (a : ℕ) → from ≤ a + 8 → kind_of (get_or ws (a + 8) 0) ≡ 53 → KeptAt s ws bound a

-- A row without marks.
unfoldable pub Unmarked : List ℕ → Type 0
Unmarked ws = (a : ℕ) → kind_of (get_or ws (a + 8) 0) ≡ 53 → ⊥

-- A row that has room for a text, and right marks from a word on.
pub record KeptFrom (s ws : List ℕ) (n : ℕ) : Type 0 where
  pub room : length s + 16 ≤ length ws
  pub kept : Kept s ws n (length s + 1)

-- A row behind a line that was read: as before, or with the line's words kept.
unfoldable pub Keeps : List ℕ → ℕ → ℕ → List ℕ → List ℕ → Type 0
Keeps s start stop before after = (after ≡ before) ⊎ (after ≡ kept start (token_words (tokens_from start stop s)) before)
