-- Where pattern text stops being right: refusal 7.
use Rattle.std.proofs.Math.Option.{bind}
use Rattle.std.specs.Prelude.{ℕ, ◌+◌, ◌<◌, ◌≤◌, eqb, length, ◌≡◌, Bool, true, false, ◌||◌, ◌⊎◌}
use mathlib.Core.List.{List, [], ◌∷◌, ◌++◌, Memᴰ}
use Rattle.songcode.specs.Lists.{is_some, any}
use Rattle.songcode.specs.Bytes.{placed}
use Rattle.songcode.specs.Answer.Lines.{Line}
use Rattle.songcode.specs.Answer.Tokens.{Token, line_end, opens, tokens_of}
use Rattle.songcode.specs.Answer.PatternText.{items_in, kept, no_reference, whole_reference, pattern_by}
use Rattle.text.specs.Spans.{part}
use Rattle.grammar.specs.declared.kinds.Kind.TheVariants.{Colon}
use Rattle.grammar.specs.Places.{column}
use Rattle.grammar.specs.Kinds.{kind_of}
use Rattle.slips.specs.declared.patterns.Whose.{Whose}
use Rattle.slips.specs.declared.patterns.Whose.TheVariants.{Definition, Section, Side}

unfoldable pub is_colon : Token → Bool
unfolding kind_of
is_colon t = eqb (column (kind_of t)) (column Colon)

-- A text is right, by its tokens: songcode reads it as a definition's text, as a section's, or as a lead-in or tail, "without `:` and `$`".
unfoldable pub Right : Whose → List Token → Type 0
unfolding is_colon
Right Definition ts = is_some (bind (items_in ts) (kept (λ r. true))) ≡ true
Right Section ts = is_some (pattern_by (whole_reference ts) ts) ≡ true
Right Side ts = (any is_colon ts ≡ false) × (is_some (bind (items_in ts) (kept no_reference)) ≡ true)

-- The tokens of the lines of a text, a line end between neighbours.
unfoldable pub text_tokens : List Line → List Token
unfolding tokens_of
text_tokens [] = []
text_tokens (l ∷ ls) = tokens_of l ls

-- The bytes from one place up to another as a line.
abbrev pub piece : List ℕ → ℕ → ℕ → ℕ → Line
piece s n from to = record { number = n; text = placed from (part from to s) }

-- A text cut at a place: the lines in front, the line that holds the place, by its first byte and its end, and the lines behind.
pub record CutAt (s : List ℕ) (lines : List Line) (at : ℕ) : Type 0 where
  pub passed : List Line
  pub rest : List Line
  pub number : ℕ
  pub start : ℕ
  pub stop : ℕ
  pub written : lines ≡ passed ++ (piece s number start stop ∷ rest)
  pub begins : start ≤ at
  pub ends : at ≤ stop

-- The text before the place, and the text from it on.
abbrev pub before : {s : List ℕ} {lines : List Line} {at : ℕ} → CutAt s lines at → List Token
before {s} {lines} {at} c = text_tokens (c.passed ++ (piece s c.number c.start at ∷ []))

abbrev pub onward : {s : List ℕ} {lines : List Line} {at : ℕ} → CutAt s lines at → List Token
onward {s} {lines} {at} c = text_tokens (piece s c.number at c.stop ∷ c.rest)

-- The last token of some is at a place: nothing but line ends stands behind it.
unfoldable pub OnlyEnds : List Token → Type 0
OnlyEnds [] = Unit {0}
OnlyEnds (t ∷ ts) = (t ≡ line_end) × OnlyEnds ts

pub record LastAt (s : List ℕ) (lines : List Line) (ts : List Token) (from : ℕ) : Type 0 where
  pub cut : CutAt s lines from
  pub token : Token
  pub ends : List Token
  pub read : ts ≡ before cut ++ (token ∷ ends)
  pub only : OnlyEnds ends

-- So is the last `[`: none stands behind it.
pub record OpenAt (s : List ℕ) (lines : List Line) (ts : List Token) (from : ℕ) : Type 0 where
  pub cut : CutAt s lines from
  pub behind : List Token
  pub read : ts ≡ before cut ++ (opens ∷ behind)
  pub none : Memᴰ opens behind → ⊥

-- Where both begin: the last token, if there is one; the last `[`, or 0.
pub record Back : Type 0 where
  pub last : ℕ
  pub bracket : ℕ

pub record Latest (s : List ℕ) (lines : List Line) (ts : List Token) (b : Back) : Type 0 where
  pub token : OnlyEnds ts ⊎ LastAt s lines ts b.last
  pub loop : 0 < b.bracket → OpenAt s lines ts b.bracket

-- No right text begins with these tokens and the one that follows; where none follows, they are no right text.
unfoldable pub Stuck : Whose → List Token → List Token → Type 0
unfolding Right
Stuck w ts [] = Right w ts → ⊥
Stuck w ts (t ∷ us) = (more : List Token) → Right w (ts ++ (t ∷ more)) → ⊥

-- The place at which a text stops being right: what stands before it is the beginning of a right text, and with the token at the place no longer; at
-- the end of the text, it is not whole. Before it the last token and the last `[` are known.
pub record StopsAt (s : List ℕ) (w : Whose) (lines : List Line) (at : ℕ) (b : Back) : Type 0 where
  pub cut : CutAt s lines at
  pub apart : text_tokens lines ≡ before cut ++ onward cut
  pub begun : (more : List Token) × Right w (before cut ++ more)
  pub stuck : Stuck w (before cut) (onward cut)
  pub latest : Latest s lines (before cut) b

-- The place that is told is this place, but for these clauses: what stands behind the `]` there (13); and this token or the one before it, the separator,
-- the `=`, the `[` or the `$n` that may not stand so (6, 7, 10, 17, 19), or where a text should stand (21); and the last `[` before it, which is open (15).
abbrev pub is_count : ℕ → Bool
is_count clause = eqb clause 13

abbrev pub is_earlier : ℕ → Bool
is_earlier clause = eqb clause 6 || eqb clause 7 || eqb clause 10 || eqb clause 15 || eqb clause 17 || eqb clause 19 || eqb clause 21

abbrev pub is_open : ℕ → Bool
is_open clause = eqb clause 15

-- Before the place: the last `[`, or this token or the last.
abbrev pub Earlier : ℕ → ℕ → Back → ℕ → Type 0
Earlier clause at b from = ((is_open clause ≡ true) × (0 < from) × (from ≡ b.bracket)) ⊎ ((from ≡ at) ⊎ (from ≡ b.last))

pub record PlacedBy (clause at : ℕ) (b : Back) (from : ℕ) : Type 0 where
  pub here : (is_count clause || is_earlier clause) ≡ false → from ≡ at
  pub count : is_count clause ≡ true → from ≡ at + 1
  pub earlier : is_earlier clause ≡ true → (from ≤ at) × Earlier clause at b from

-- A clause of refusal 7, and its place.
pub record Told (at : ℕ) (b : Back) (clause from : ℕ) : Type 0 where
  pub named : (1 ≤ clause) × (clause ≤ 22)
  pub placed : PlacedBy clause at b from

-- What is promised of a slip in a text that is not right.
pub record RuledIn (s : List ℕ) (w : Whose) (lines : List Line) (clause from : ℕ) : Type 0 where
  pub at : ℕ
  pub back : Back
  pub stops : StopsAt s w lines at back
  pub told : Told at back clause from
  pub inside : from ≤ length s

-- The same, of a text of which it is not known.
abbrev pub Ruled : List ℕ → Whose → List Line → ℕ → ℕ → Type 0
Ruled s w lines clause from = (Right w (text_tokens lines) → ⊥) → RuledIn s w lines clause from
