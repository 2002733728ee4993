-- What a position sounds, the last chord behind it, and the positions of a measure.
use Rattle.std.specs.Prelude.{ℕ, zero, suc, ◌+◌, List, [], ◌∷◌, ◌++◌, take, drop, replicate}
use Rattle.songcode.specs.Lists.{provided◌then◌else◌}
use Rattle.tokens.specs.Signs.{kind_of, is_position, is_chord, is_again, is_remover, silence_word}

-- What a position sounds, as the word of a beat without head: itself, the last chord for `%`, silence.
-- Where no chord was yet the last one is silence.
unfoldable pub voice_of : ℕ → ℕ → ℕ
unfolding provided◌then◌else◌
voice_of last w = provided is_chord (kind_of w) then w else (provided is_again (kind_of w) then last else silence_word)

unfoldable pub chord_of : ℕ → ℕ → ℕ
unfolding provided◌then◌else◌
chord_of last w = provided is_chord (kind_of w) then w else last

unfoldable pub chords_of : ℕ → List ℕ → ℕ
unfolding chord_of
chords_of last [] = last
chords_of last (w ∷ ws) = chords_of (chord_of last w) ws

-- The beats of a sound: the first has the head.
unfoldable pub lasting_of : ℕ → ℕ → List ℕ
lasting_of zero v = []
lasting_of (suc k) v = (v + 16) ∷ replicate k v

-- The beats of a position; a remover has none.
unfoldable pub part_of : ℕ → ℕ → ℕ → List ℕ
unfolding provided◌then◌else◌ lasting_of voice_of
part_of share last w = provided is_remover (kind_of w) then [] else lasting_of share (voice_of last w)

unfoldable pub parts_of : ℕ → ℕ → List ℕ → List ℕ
unfolding part_of chord_of
parts_of share last [] = []
parts_of share last (w ∷ ws) = part_of share last w ++ parts_of share (chord_of last w) ws

-- How many positions sound.
unfoldable pub sounds_as : ℕ → ℕ
unfolding provided◌then◌else◌
sounds_as k = provided is_remover k then 0 else 1

unfoldable pub sounding_of : List ℕ → ℕ
unfolding sounds_as
sounding_of [] = 0
sounding_of (w ∷ ws) = sounds_as (kind_of w) + sounding_of ws

-- The positions that stand in a row.
unfoldable pub positions_of : List ℕ → List ℕ
unfolding provided◌then◌else◌ is_position
positions_of [] = []
positions_of (w ∷ ws) = provided is_position (kind_of w) then w ∷ positions_of ws else []

unfoldable pub positions_at : List ℕ → ℕ → ℕ → List ℕ
unfolding positions_of
positions_at ws to at = positions_of (drop at (take to ws))
