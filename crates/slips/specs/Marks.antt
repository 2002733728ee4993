-- The tokens of a text with their places.
use Rattle.std.specs.Prelude.{ℕ, ◌+◌, ◌<◌, ◌≤◌, ◌≡◌, List, [], ◌∷◌, ◌++◌, map}
use Rattle.songcode.specs.Bytes.{placed}
use Rattle.songcode.specs.Answer.Keys.{setting_in}
use Rattle.songcode.specs.Answer.Lines as songcode
use Rattle.songcode.specs.Answer.Tokens.{Token, sound, remover, reference, semicolon, colon, line_end, opens, closes, wrong, tokens}
use Rattle.text.specs.declared.lines.Line.{Line}
use Rattle.text.specs.Spans.{part, front_blanks, line_text}
use Rattle.tokens.specs.Lexing.{tokens_from}
use Rattle.slips.specs.Places.{Whole}

-- A token, the place of its first byte, and one behind its last before the next token begins.
pub record Mark : Type 0 where
  pub token : Token
  pub from : ℕ
  pub to : ℕ

-- The tokens from one place up to another: each begins at the first byte that is no blank.
unfoldable pub MarksFrom : List ℕ → ℕ → ℕ → List Mark → Type 0
MarksFrom s at stop [] = tokens_from at stop s ≡ []
MarksFrom s at stop (m ∷ ms) =
    (m.from ≡ at + front_blanks (part at stop s))
    × (m.from < m.to)
    × (m.to ≤ stop)
    × (tokens_from at stop s ≡ m.token ∷ tokens_from m.to stop s)
    × MarksFrom s m.to stop ms

-- A line's end.
abbrev pub end_mark : ℕ → Mark
end_mark stop = record { token = line_end; from = stop; to = stop }

-- The tokens of some lines, each line with its end.
unfoldable pub MarkedLines : List ℕ → List Line → List Mark → Type 0
MarkedLines s [] ms = ms ≡ []
MarkedLines s (l ∷ ls) ms =
    (here : List Mark) × (rest : List Mark) × Whole s l × MarksFrom s l.start l.stop here × MarkedLines s ls rest
    × (ms ≡ here ++ (end_mark l.stop ∷ rest))

-- The number that a text names with its first token, 0 where it names none.
unfoldable pub named_by : List Token → ℕ
named_by [] = 0
named_by (reference n ∷ ts) = n
named_by (sound s ∷ ts) = 0
named_by (remover ∷ ts) = 0
named_by (semicolon ∷ ts) = 0
named_by (colon ∷ ts) = 0
named_by (line_end ∷ ts) = 0
named_by (opens ∷ ts) = 0
named_by (closes n ∷ ts) = 0
named_by (wrong ∷ ts) = 0

unfoldable pub named_in : List songcode.Line → ℕ
unfolding named_by
named_in [] = 0
named_in (l ∷ ls) = named_by (tokens l.text)

-- The tokens of a text without references, from its lines.
pub record PlainText (s : List ℕ) (ls : List songcode.Line) (ms : List Mark) : Type 0 where
  pub lines : List Line
  pub same : map (line_text s) lines ≡ ls
  pub marked : MarkedLines s lines ms

-- The tokens of a lead-in or tail: the setting of its line, and the line's end.
pub record SideText (s : List ℕ) (l : Line) (ms : List Mark) : Type 0 where
  pub from : ℕ
  pub setting : setting_in (placed l.start (part l.start l.stop s)) ≡ placed from (part from l.stop s)
  pub marks : List Mark
  pub marked : MarksFrom s from l.stop marks
  pub all : ms ≡ marks ++ (end_mark l.stop ∷ [])
