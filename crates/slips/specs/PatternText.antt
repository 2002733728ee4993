-- The text that a section's pattern says: its own lines, or a definition's. "`$n` means an earlier definition's items, put in its place."
use Rattle.std.specs.Prelude.{ℕ, ◌≡◌, List, [], ◌∷◌, ◌++◌, Bool, false, eqb}
use Rattle.std.proofs.Math.Option.{get_or}
use Rattle.songcode.specs.Lists.{provided◌then◌else◌}
use Rattle.songcode.specs.Answer.Lines.{Line, Block}
use Rattle.songcode.specs.Answer.SongText.{BlockKind, metadata, definition, section, block_kind, head_in}
use Rattle.songcode.specs.Answer.Tokens.{Token, sound, remover, reference, semicolon, colon, line_end, opens, closes, wrong}
use Rattle.songcode.specs.Answer.Answer.{blocks_of}
use Rattle.slips.specs.Marks.{Mark, named_in, PlainText}

-- The block of a definition of this number.
unfoldable pub defines_by : BlockKind → ℕ → Block → Bool
unfolding head_in
defines_by metadata n b = false
defines_by definition n b = eqb (get_or (head_in b.first) 0) n
defines_by section n b = false

unfoldable pub defines : ℕ → Block → Bool
unfolding defines_by block_kind
defines n b = defines_by (block_kind b) n b

-- Its lines: none where it is empty, or where there is none.
unfoldable pub definition_lines : ℕ → List Block → List Line
unfolding provided◌then◌else◌ defines
definition_lines n [] = []
definition_lines n (b ∷ bs) = provided defines n b then b.others else definition_lines n bs

-- What a token means beside itself: a reference the tokens of the definition's lines.
unfoldable pub Means : List ℕ → Token → List Mark → Type 0
unfolding definition_lines blocks_of
Means s (reference n) ms = PlainText s (definition_lines n (blocks_of s)) ms
Means s (sound x) ms = ms ≡ []
Means s remover ms = ms ≡ []
Means s semicolon ms = ms ≡ []
Means s colon ms = ms ≡ []
Means s line_end ms = ms ≡ []
Means s opens ms = ms ≡ []
Means s (closes n) ms = ms ≡ []
Means s wrong ms = ms ≡ []

-- Some tokens, behind each of them what it means.
unfoldable pub PutIn : List ℕ → List Mark → List Mark → Type 0
unfolding Means
PutIn s [] all = all ≡ []
PutIn s (m ∷ ms) all = (here : List Mark) × (rest : List Mark) × Means s m.token here × PutIn s ms rest × (all ≡ m ∷ (here ++ rest))

-- The tokens of a pattern with these lines: its own, or those of the definition that it names, with all references put in.
pub data PatternText (s : List ℕ) (ls : List Line) (ms : List Mark) : Type 0 where
  written : named_in ls ≡ 0 → PlainText s ls ms → PatternText s ls ms
  named : (named_in ls ≡ 0 → ⊥) → (own : List Mark) → PlainText s (definition_lines (named_in ls) (blocks_of s)) own → PutIn s own ms
      → PatternText s ls ms
