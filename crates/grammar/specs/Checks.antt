-- The check of a pattern text, stepped by the kinds of its tokens.
use Rattle.std.specs.Prelude.{ℕ, ◌+◌, ◌-◌, List, [], ◌∷◌, Bool, true, false, eqb, leb}
use Rattle.songcode.specs.Lists.{provided◌then◌else◌}
use Rattle.songcode.specs.Bytes.{Byte}
use Rattle.songcode.specs.Answer.Lines.{Line}
use Rattle.songcode.specs.Answer.Tokens.{tokens, tokens_of}
use Rattle.songcode.specs.Answer.PatternText.{loops_deep}
use Rattle.grammar.specs.declared.kinds.Kind.{Kind}
use Rattle.grammar.specs.declared.kinds.Kind.TheVariants.{Sound, Remover, Reference, Semicolon, Colon, LineEnd, Opens, Closes, Wrong}
use Rattle.grammar.specs.declared.checks.Place.{Place}
use Rattle.grammar.specs.declared.checks.Place.TheVariants.{Fresh, Wants, Full, Bad}
use Rattle.grammar.specs.declared.checks.Check.{Check}
use Rattle.grammar.specs.Places.{row, next_place}
use Rattle.grammar.specs.Kinds.{kinds_of, word_kind}

abbrev pub check : Place → ℕ → Bool → Check
check p n b = record { place = p; loops = n; named = b }

-- Before the first token; against the rules.
abbrev pub first : Check
first = check Fresh 0 false

abbrev pub spoiled : Check
spoiled = check Bad 0 false

abbrev pub moved : Check → Place → Check
moved c p = check p c.loops c.named

abbrev pub referred : Check → Place → Check
referred c p = check p c.loops true

-- A loop that opens; in as many as may be open at once, none.
unfoldable pub opened : Check → Check
unfolding provided◌then◌else◌
opened c = provided leb loops_deep c.loops then spoiled else check Wants (c.loops + 1) c.named

unfoldable pub closed : Check → Check
unfolding provided◌then◌else◌
closed c = provided eqb c.loops 0 then spoiled else check Full (c.loops - 1) c.named

-- The place of the last row.
abbrev pub is_bad : Place → Bool
is_bad p = eqb (row p) 8

-- The check at its new place, with the loops and the `$n` counted.
unfoldable pub arrived : Check → Place → Kind → Check
unfolding opened closed
arrived c p Opens = opened c
arrived c p Closes = closed c
arrived c p Reference = referred c p
arrived c p Sound = moved c p
arrived c p Remover = moved c p
arrived c p Semicolon = moved c p
arrived c p Colon = moved c p
arrived c p LineEnd = moved c p
arrived c p Wrong = moved c p

-- The check behind one more token, and behind several.
unfoldable pub check_step : Check → Kind → Check
unfolding provided◌then◌else◌ arrived
check_step c k = provided is_bad (next_place c.place k) then spoiled else arrived c (next_place c.place k) k

unfoldable pub check_run : Check → List Kind → Check
unfolding check_step
check_run c [] = c
check_run c (k ∷ ks) = check_run (check_step c k) ks

-- The check behind tokens that are given by their words.
unfoldable pub check_words : Check → List ℕ → Check
unfolding check_step word_kind
check_words c [] = c
check_words c (w ∷ ws) = check_words (check_step c (word_kind w)) ws

-- The check behind a line's text, and behind the lines of a text with a line end between neighbours.
abbrev pub check_text : Check → List Byte → Check
check_text c bs = check_run c (kinds_of (tokens bs))

abbrev pub check_lines : Line → List Line → Check
check_lines l ls = check_run first (kinds_of (tokens_of l ls))
