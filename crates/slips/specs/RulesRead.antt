-- A pattern text read token by token, up to where it stops being right: refusal 7.
use Rattle.std.specs.Prelude.{ℕ, ◌<◌, ◌≤◌, length, ◌≡◌, List, [], ◌∷◌, ◌++◌, Bool, true, false, ◌||◌, ◌&&◌, not, ◌⊎◌, Result, MatchResult}
use Rattle.songcode.specs.Lists.{any}
use Rattle.songcode.specs.Answer.Lines.{Line}
use Rattle.songcode.specs.Answer.Tokens.{Token, line_end, opens, tokens_of}
use Rattle.songcode.specs.Answer.Sections.{kind_of_line, modifier_line, pattern_line, setting_of, pattern_run, body}
use Rattle.songcode.specs.Answer.SongText.{definition, section, block_kind}
use Rattle.text.specs.declared.lines.Line as text
use Rattle.text.specs.Spans.{line_text}
use Rattle.tokens.specs.Lexing.{tokens_from}
use Rattle.sections.specs.declared.blocks.Place as sections
use Rattle.sections.specs.BlockParts.{block_at}
use Rattle.grammar.specs.declared.checks.Place.{Place}
use Rattle.grammar.specs.declared.checks.Check.{Check}
use Rattle.grammar.specs.Kinds.{kinds_of}
use Rattle.grammar.specs.Checks.{first, is_bad, check_run}
use Rattle.grammar.specs.Verdicts.{is_alone}
use Rattle.slips.specs.declared.slip.Slip.{Slip}
use Rattle.slips.specs.declared.patterns.Reading.{Reading}
use Rattle.slips.specs.declared.patterns.Stop.{Stop}
use Rattle.slips.specs.declared.patterns.Whose.{Whose}
use Rattle.slips.specs.declared.patterns.Whose.TheVariants.{Definition, Section, Side}
use Rattle.slips.specs.Clauses.{number_of}
use Rattle.slips.specs.Rules.{is_colon, Right, piece, Back, Latest, Told, RuledIn, Ruled}

-- The tokens in front of a line behind others.
unfoldable pub up_to : List Line → List Token
unfolding tokens_of
up_to [] = []
up_to (l ∷ ls) = tokens_of l ls ++ (line_end ∷ [])

-- The text of a lead-in or tail: the setting on its line.
abbrev pub side_line : List ℕ → text.Line → Line
side_line s l = record { number = l.number; text = setting_of (line_text s l) }

-- What is found from a line and the place where its block begins: of a definition its text, of a section's modifier line the setting, and of its pattern
-- line the pattern.
pub record RuledAt (s : List ℕ) (l : text.Line) (b : sections.Place) (x : Slip) : Type 0 where
  pub definition : b.at < length s → block_kind (block_at s b.number b.at) ≡ definition → (m : Line) (ms : List Line)
      → (block_at s b.number b.at).others ≡ m ∷ ms → Ruled s Definition (m ∷ ms) x.clause x.from
  pub pattern : b.at < length s → block_kind (block_at s b.number b.at) ≡ section → kind_of_line (line_text s l) ≡ pattern_line → (m : Line) (ms : List Line)
      → pattern_run (body (block_at s b.number b.at)) ≡ m ∷ ms → Ruled s Section (m ∷ ms) x.clause x.from
  pub side : b.at < length s → block_kind (block_at s b.number b.at) ≡ section → kind_of_line (line_text s l) ≡ modifier_line
      → Ruled s Side (side_line s l ∷ []) x.clause x.from

-- A check from which no right text goes on: against the rules, or with a `$n` that may not stand there.
abbrev pub amiss : Whose → Place → Bool
amiss Definition p = false
amiss Section p = not (is_alone p)
amiss Side p = true

unfoldable pub misnamed : Whose → Check → Bool
misnamed w c = c.named && amiss w c.place

unfoldable pub is_stuck : Whose → Check → Bool
unfolding misnamed
is_stuck w c = is_bad c.place || misnamed w c

abbrev pub is_side : Whose → Bool
is_side Definition = false
is_side Section = false
is_side Side = true

-- A token that no such text has.
unfoldable pub barred_token : Whose → Token → Bool
unfolding is_colon
barred_token Definition t = false
barred_token Section t = false
barred_token Side t = is_colon t

-- A reading that goes on: the tokens so far are the beginning of a right text.
pub record Going (w : Whose) (ts : List Token) (at : ℕ) (r : Reading) : Type 0 where
  pub check : r.check ≡ check_run first (kinds_of ts)
  pub free : is_stuck w r.check ≡ false
  pub unbarred : any (barred_token w) ts ≡ false
  pub behind : r.from ≤ at
  pub opened : r.open ≤ at

-- Where its last token and its last `[` begin.
abbrev pub back_of : Reading → Back
back_of r = record { last = r.from; bracket = r.open }

-- One that has stopped in front of a token.
pub record Refuses (w : Whose) (ts : List Token) (t : Token) (at : ℕ) (b : Back) (x : Stop) : Type 0 where
  pub begun : (more : List Token) × Right w (ts ++ more)
  pub never : (more : List Token) → Right w (ts ++ (t ∷ more)) → ⊥
  pub told : Told at b (number_of x.clause) x.from

-- The last `[` behind one more token.
abbrev pub Opened : Token → ℕ → ℕ → ℕ → Type 0
Opened t at old new = ((t ≡ opens) × (new ≡ at)) ⊎ ((t ≡ opens → ⊥) × (new ≡ old))

-- A token is read, or a line end: the reading goes on behind it, its last token at a place, or has stopped in front of it.
abbrev pub Steps : Whose → List Token → Token → ℕ → ℕ → Back → ℕ → Result Reading Stop → Type 0
Steps w ts t at next b from r =
    MatchResult r (λ x. Going w (ts ++ (t ∷ [])) next x × (x.from ≡ from) × Opened t at b.bracket x.open) (λ e. Refuses w ts t at b e)

-- A reading of a text, up to a place on a line of it or stopped before.
abbrev pub GoesOn : List ℕ → Whose → List Line → List Token → ℕ → Reading → Type 0
GoesOn s w lines ts at r = Going w ts at r × Latest s lines ts (back_of r)

abbrev pub Stopped : List ℕ → Whose → List Line → Stop → Type 0
Stopped s w lines x = RuledIn s w lines (number_of x.clause) x.from

abbrev pub Reads : List ℕ → Whose → List Line → List Token → ℕ → Result Reading Stop → Type 0
Reads s w lines ts at r = MatchResult r (λ x. GoesOn s w lines ts at x) (λ e. Stopped s w lines e)

-- All lines are read up to the end of the last one.
pub record ReadUp (s : List ℕ) (w : Whose) (lines : List Line) (r : Reading) : Type 0 where
  pub passed : List Line
  pub number : ℕ
  pub start : ℕ
  pub stop : ℕ
  pub written : lines ≡ passed ++ (piece s number start stop ∷ [])
  pub ordered : start ≤ stop
  pub inside : stop ≤ length s
  pub read : GoesOn s w lines (up_to passed ++ tokens_from start stop s) stop r

-- So they are, or the reading has stopped before.
abbrev pub ReadAll : List ℕ → Whose → List Line → Result Reading Stop → Type 0
ReadAll s w lines r = MatchResult r (λ x. ReadUp s w lines x) (λ e. Stopped s w lines e)
