-- The tokens of some lines, as they are laid into the buffer; the number that a pattern names, and a text of the row.
use Rattle.std.specs.Prelude.{ℕ, ◌+◌, ◌≤◌, ◌≡◌, List, [], ◌∷◌, length}
use Rattle.std.proofs.Math.Option.{Option, none, some}
use Rattle.songcode.specs.Lists.{provided◌then◌else◌}
use Rattle.songcode.specs.Answer.Lines.{Line}
use Rattle.songcode.specs.Song.{Pattern, items, named}
use Rattle.songcode.specs.Answer.Tokens.{Token, tokens, tokens_of}
use Rattle.tokens.specs.Signs.{kind_of, number_of, is_reference}
use Rattle.score.specs.declared.stretches.Stretch.{Stretch}
use Rattle.score.specs.Places.{word_of}
use Rattle.sections.specs.Slots.{Setting}

-- A line end stands between neighbours.
unfoldable pub run_tokens : List Line → List Token
run_tokens [] = []
run_tokens (l ∷ ls) = tokens_of l ls

-- A lead-in or tail; none where there is no such setting.
unfoldable pub said_tokens : Option Setting → List Token
said_tokens none = []
said_tokens (some x) = tokens x.text

-- The bytes of some lines, each with one for its line end: as many words are enough for their tokens.
unfoldable pub weight : List Line → ℕ
weight [] = 0
weight (l ∷ ls) = length l.text + 1 + weight ls

-- The bytes of a lead-in or tail.
unfoldable pub said_weight : Option Setting → ℕ
said_weight none = 0
said_weight (some x) = length x.text

-- 0 is the number of no definition.
unfoldable pub Names : Pattern → ℕ → Type 0
Names (items r) k = k ≡ 0
Names (named n) k = (k ≡ n) × (1 ≤ n) × (n ≤ 9999)

-- The first word of a text that names a definition is a reference.
unfoldable pub named_at : List ℕ → Stretch → ℕ
unfolding provided◌then◌else◌ word_of
named_at ws t = provided is_reference (kind_of (word_of ws t.to t.from)) then number_of (word_of ws t.to t.from) else 0
