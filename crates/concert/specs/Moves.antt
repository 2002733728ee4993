-- "From a beat table write a second one": each word moved, and the tables and moves that are refused.
use Rattle.std.specs.Prelude.{ℕ, ◌+◌, ◌*◌, ◌/◌, ◌%◌, ◌^◌, List, map, Bool, not, ◌&&◌, ◌||◌, eqb, leb, ltb, ℤ, length, Option, Some, None}
use Rattle.songcode.specs.Lists.{provided◌then◌else◌, any}
use Rattle.refusals.specs.declared.names.Why.{Why}
use Rattle.refusals.specs.declared.names.Why.TheVariants.{TableTooShort, MoveOutOfRange, NoBeatWord}
use Rattle.concert.specs.Pitches.{is_allowed, moved_base}

-- beats: "base 6 (63 silence)", the highest bits of 32; what stands behind it.
unfoldable pub base_in : ℕ → ℕ
base_in word = word / 2 ^ 26

unfoldable pub behind_base : ℕ → ℕ
behind_base word = word % 2 ^ 26

-- "Extensions and heads stay": nothing but the base changes, and a silence is no base chord.
unfoldable pub moved_word : ℤ → ℕ → ℕ
unfolding provided◌then◌else◌ base_in behind_base moved_base
moved_word move word = provided eqb (base_in word) 63 then word else moved_base move (base_in word) * 2 ^ 26 + behind_base word

unfoldable pub moved_table : ℤ → List ℕ → List ℕ
unfolding moved_word
moved_table move beats = map (moved_word move) beats

-- "a word with base 34 to 62 or a set spare bit"; the lowest four are not named.
unfoldable pub is_odd : ℕ → Bool
unfolding base_in
is_odd word = (leb 34 (base_in word) && leb (base_in word) 62) || not (eqb (word % 2 ^ 4) 0)

-- "Refusals, in this order, line 0": 21, 22, 18; none where nothing is refused.
unfoldable pub refusal_of : ℤ → List ℕ → ℕ → Option Why
unfolding provided◌then◌else◌ is_allowed any is_odd
refusal_of move beats lent =
    provided not (is_allowed move) then Some MoveOutOfRange
    else provided any is_odd beats then Some NoBeatWord else provided ltb lent (length beats) then Some TableTooShort
    else None
