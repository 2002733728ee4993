-- Where a token leads to, from each place of the check.
use Rattle.std.specs.Prelude.{ℕ, List, [], ◌∷◌, get_or}
use Rattle.grammar.specs.declared.kinds.Kind.{Kind}
use Rattle.grammar.specs.declared.kinds.Kind.TheVariants.{Sound, Remover, Reference, Semicolon, Colon, LineEnd, Opens, Closes, Wrong}
use Rattle.grammar.specs.declared.checks.Place.{Place}
use Rattle.grammar.specs.declared.checks.Place.TheVariants.{Fresh, Wants, Joins, Sounds, Removed, Alone, Full, Ended, Bad}

-- Kinds and places as numbers, in the order in which they are declared.
abbrev pub column : Kind → ℕ
column Sound = 0
column Remover = 1
column Reference = 2
column Semicolon = 3
column Colon = 4
column LineEnd = 5
column Opens = 6
column Closes = 7
column Wrong = 8

abbrev pub row : Place → ℕ
row Fresh = 0
row Wants = 1
row Joins = 2
row Sounds = 3
row Removed = 4
row Alone = 5
row Full = 6
row Ended = 7
row Bad = 8

-- A row for each place, a column for each kind: an item is to come, in the first three; it is there, in the next four; a line end is behind it.
abbrev pub next : List (List Place)
next =
    (Sounds ∷ Bad ∷ Alone ∷ Bad ∷ Bad ∷ Bad ∷ Wants ∷ Bad ∷ Bad ∷ [])
    ∷ (Sounds ∷ Bad ∷ Full ∷ Bad ∷ Bad ∷ Bad ∷ Wants ∷ Bad ∷ Bad ∷ [])
    ∷ (Sounds ∷ Bad ∷ Full ∷ Bad ∷ Bad ∷ Wants ∷ Wants ∷ Bad ∷ Bad ∷ [])
    ∷ (Sounds ∷ Removed ∷ Bad ∷ Wants ∷ Joins ∷ Ended ∷ Bad ∷ Full ∷ Bad ∷ [])
    ∷ (Bad ∷ Removed ∷ Bad ∷ Wants ∷ Joins ∷ Ended ∷ Bad ∷ Full ∷ Bad ∷ [])
    ∷ (Bad ∷ Bad ∷ Bad ∷ Wants ∷ Joins ∷ Ended ∷ Bad ∷ Full ∷ Bad ∷ [])
    ∷ (Bad ∷ Bad ∷ Bad ∷ Wants ∷ Joins ∷ Ended ∷ Bad ∷ Full ∷ Bad ∷ [])
    ∷ (Sounds ∷ Bad ∷ Full ∷ Bad ∷ Joins ∷ Bad ∷ Wants ∷ Bad ∷ Bad ∷ [])
    ∷ (Bad ∷ Bad ∷ Bad ∷ Bad ∷ Bad ∷ Bad ∷ Bad ∷ Bad ∷ Bad ∷ [])
    ∷ []

abbrev pub next_place : Place → Kind → Place
next_place p k = get_or (get_or next (row p) []) (column k) Fresh
