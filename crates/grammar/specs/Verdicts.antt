-- What the check at the end of a text says of it.
use Rattle.std.specs.Prelude.{Bool, ◌||◌, ◌&&◌, not, eqb, leb, ltb}
use Rattle.grammar.specs.declared.checks.Place.{Place}
use Rattle.grammar.specs.declared.checks.Check.{Check}
use Rattle.grammar.specs.Places.{row}

-- An item stands last, at the places from `Sounds` to `Full`; it is a `$n`, the whole text, at `Alone`.
abbrev pub is_behind : Place → Bool
is_behind p = leb 3 (row p) && ltb (row p) 7

abbrev pub is_alone : Place → Bool
is_alone p = eqb (row p) 5

-- A definition's text; one without `$n`; a section's.
unfoldable pub definition_fine : Check → Bool
definition_fine c = is_behind c.place && eqb c.loops 0

unfoldable pub unnamed_fine : Check → Bool
unfolding definition_fine
unnamed_fine c = definition_fine c && not c.named

unfoldable pub section_fine : Check → Bool
unfolding definition_fine
section_fine c = definition_fine c && (is_alone c.place || not c.named)
