-- Refusal 12: the first measure whose positions do not divide N.
use Rattle.std.specs.Prelude.{ℕ, ◌+◌, ◌%◌, ◌≤◌, ◌≡◌, List, [], ◌∷◌, ◌++◌, Bool, true, false, ◌||◌, eqb, leb, ltb, length}
use Rattle.songcode.specs.Lists.{provided◌then◌else◌}
use Rattle.songcode.specs.Answer.Tokens.{Token, sound, remover, reference, semicolon, colon, line_end, opens, closes, wrong}
use Rattle.slips.specs.declared.readings.Misfit.{Misfit}
use Rattle.slips.specs.Marks.{Mark}
use Rattle.slips.specs.Places.{OneLine}
use Rattle.tokens.specs.Signs.{is_chord}

-- "positions ...: a chord, `%`, `_` (silence), `=` (remover)"
unfoldable pub is_position : Token → Bool
is_position (sound s) = true
is_position remover = true
is_position (reference n) = false
is_position semicolon = false
is_position colon = false
is_position line_end = false
is_position opens = false
is_position (closes n) = false
is_position wrong = false

-- The measures of a text: its longest runs of positions. Those that were met are the beginning of the first.
unfoldable pub over : List Mark → List (List Mark) → List (List Mark)
over [] rows = rows
over (m ∷ ms) rows = (m ∷ ms) ∷ rows

unfoldable pub measures_from : List Mark → List Mark → List (List Mark)
unfolding provided◌then◌else◌ is_position over
measures_from met [] = over met []
measures_from met (m ∷ ms) = provided is_position m.token then measures_from (met ++ (m ∷ [])) ms else over met (measures_from [] ms)

abbrev pub measures_in : List Mark → List (List Mark)
measures_in ms = measures_from [] ms

-- Where a measure begins and ends.
unfoldable pub first_from : List Mark → ℕ
first_from [] = 0
first_from (m ∷ ms) = m.from

unfoldable pub last_to : List Mark → ℕ
last_to [] = 0
last_to (m ∷ []) = m.to
last_to (m ∷ k ∷ ms) = last_to (k ∷ ms)

-- "A measure of p positions needs p to divide N": each of them does.
unfoldable pub AllFit : ℕ → List (List Mark) → Type 0
AllFit n [] = Unit {0}
AllFit n (m ∷ rows) = (n % length m ≡ 0) × AllFit n rows

-- The first measure that does not: its place, and how many positions it has.
pub record FirstMisfit (n : ℕ) (rows : List (List Mark)) (from to positions : ℕ) : Type 0 where
  pub front : List (List Mark)
  pub here : List Mark
  pub behind : List (List Mark)
  pub measures : rows ≡ front ++ (here ∷ behind)
  pub fit : AllFit n front
  pub undivided : n % length here ≡ 0 → ⊥
  pub begins : first_from here ≡ from
  pub ends : last_to here ≡ to
  pub counted : length here ≡ positions

-- What is told of a text: clause 1, the place of its first such measure, which stands on one line, and its positions; no clause where it has none.
pub record MisfitTold (s : List ℕ) (Text : List Mark → Type 0) (n clause from to positions : ℕ) : Type 0 where
  pub marks : List Mark
  pub text : Text marks
  pub few : clause ≤ 1
  pub told : clause ≡ 1 → FirstMisfit n (measures_in marks) from to positions × OneLine s from to
  pub none : (clause ≡ 1 → ⊥) → AllFit n (measures_in marks)

-- The start of a text, and of every measure.
abbrev pub no_measure : Misfit
no_measure = record { positions = 0; from = 0; to = 0; found = false }

-- A line has at most 65,536 bytes.
unfoldable pub one_more : ℕ → ℕ
unfolding provided◌then◌else◌
one_more positions = provided ltb positions 65536 then positions + 1 else positions

-- The measure is over, if one was begun.
unfoldable pub closing : ℕ → Misfit → Misfit
unfolding provided◌then◌else◌
closing n x =
    provided eqb x.positions 0 then x
    else provided eqb (n % x.positions) 0 then no_measure
    else record { positions = x.positions; from = x.from; to = x.to; found = true }

-- One more position.
unfoldable pub beginning : Misfit → ℕ → ℕ → Misfit
unfolding provided◌then◌else◌ one_more
beginning x from to =
    record { positions = one_more x.positions; from = provided eqb x.positions 0 then from else x.from; to = to; found = false }

unfoldable pub fitting_if : Bool → ℕ → Misfit → ℕ → ℕ → Misfit
unfolding provided◌then◌else◌ beginning closing
fitting_if position n x from to = provided x.found then x else provided position then beginning x from to else closing n x

-- One more token; the same by the kind of its word.
abbrev pub fitting : ℕ → Misfit → Token → ℕ → ℕ → Misfit
fitting n x t from to = fitting_if (is_position t) n x from to

abbrev pub is_position_sign : ℕ → Bool
is_position_sign k = is_chord k || leb 61 k

abbrev pub fitting_sign : ℕ → Misfit → ℕ → ℕ → ℕ → Misfit
fitting_sign n x k from to = fitting_if (is_position_sign k) n x from to

unfoldable pub fitted : ℕ → Misfit → List Mark → Misfit
unfolding fitting_if is_position
fitted n x [] = x
fitted n x (m ∷ ms) = fitted n (fitting n x m.token m.from m.to) ms
