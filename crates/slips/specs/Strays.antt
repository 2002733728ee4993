-- Refusal 13: the first `%` before every chord.
use Rattle.std.specs.Prelude.{ℕ, ◌+◌, ◌<◌, ◌≤◌, ◌≡◌, List, [], ◌∷◌, ◌++◌, Bool, true, false, length, get_or}
use Rattle.songcode.specs.Lists.{provided◌then◌else◌}
use Rattle.songcode.specs.Song.{chord, again, silence}
use Rattle.songcode.specs.Answer.Tokens.{Token, sound, remover, reference, semicolon, colon, line_end, opens, closes, wrong}
use Rattle.slips.specs.declared.readings.Stray.{Stray}
use Rattle.slips.specs.declared.readings.Stray.TheVariants.{Unheard, Sounded, Found}
use Rattle.slips.specs.Marks.{Mark}
use Rattle.tokens.specs.Signs.{is_chord, is_again}

-- Neither a chord nor `%`.
unfoldable pub Silent : Token → Type 0
Silent (sound (chord c)) = ⊥
Silent (sound again) = ⊥
Silent (sound silence) = Unit {0}
Silent remover = Unit {0}
Silent (reference n) = Unit {0}
Silent semicolon = Unit {0}
Silent colon = Unit {0}
Silent line_end = Unit {0}
Silent opens = Unit {0}
Silent (closes n) = Unit {0}
Silent wrong = Unit {0}

unfoldable pub AllSilent : List Mark → Type 0
AllSilent [] = Unit {0}
AllSilent (m ∷ ms) = Silent m.token × AllSilent ms

-- "`%` with no chord before", the first of them: before it stand neither chords nor other `%`.
pub record StrayAt (ms : List Mark) (from : ℕ) : Type 0 where
  pub front : List Mark
  pub here : Mark
  pub behind : List Mark
  pub text : ms ≡ front ++ (here ∷ behind)
  pub silent : AllSilent front
  pub again : here.token ≡ sound again
  pub place : here.from ≡ from

-- What is told of a text: clause 1 and the place of its first stray `%`, a single byte; no clause where it has none.
pub record TellsStray (ms : List Mark) (clause from to : ℕ) : Type 0 where
  pub few : clause ≤ 1
  pub told : clause ≡ 1 → StrayAt ms from × (to ≡ from + 1)
  pub none : (clause ≡ 1 → ⊥) → (from : ℕ) → StrayAt ms from → ⊥

-- What is told of a text in a file: the byte at the place is a `%`.
pub record StrayTold (s : List ℕ) (Text : List Mark → Type 0) (clause from to : ℕ) : Type 0 where
  pub marks : List Mark
  pub text : Text marks
  pub tells : TellsStray marks clause from to
  pub byte : clause ≡ 1 → (from < length s) × (get_or s from 0 ≡ 37)

-- Whether a chord or a `%` was heard; whether a `%` was first, and where.
abbrev pub is_settled : Stray → Bool
is_settled Unheard = false
is_settled Sounded = true
is_settled (Found p) = true

abbrev pub is_found : Stray → Bool
is_found Unheard = false
is_found Sounded = false
is_found (Found p) = true

abbrev pub stray_place : Stray → ℕ
stray_place Unheard = 0
stray_place Sounded = 0
stray_place (Found p) = p

-- The first chord or `%` settles it.
unfoldable pub settling : Token → ℕ → Stray
settling (sound (chord c)) from = Sounded
settling (sound again) from = Found from
settling (sound silence) from = Unheard
settling remover from = Unheard
settling (reference n) from = Unheard
settling semicolon from = Unheard
settling colon from = Unheard
settling line_end from = Unheard
settling opens from = Unheard
settling (closes n) from = Unheard
settling wrong from = Unheard

unfoldable pub hearing : Stray → Token → ℕ → Stray
unfolding settling
hearing Unheard t from = settling t from
hearing Sounded t from = Sounded
hearing (Found p) t from = Found p

unfoldable pub heard : Stray → List Mark → Stray
unfolding hearing
heard x [] = x
heard x (m ∷ ms) = heard (hearing x m.token m.from) ms

-- The same by the kind of a token's word.
unfoldable pub hearing_sign : Stray → ℕ → ℕ → Stray
unfolding provided◌then◌else◌
hearing_sign Unheard k from = provided is_chord k then Sounded else provided is_again k then Found from else Unheard
hearing_sign Sounded k from = Sounded
hearing_sign (Found p) k from = Found p
