-- The walk run on token words of written patterns: what it plays is what the definitions of songcode play.
use Rattle.std.specs.Prelude.{◌≡◌, ℕ, ◌+◌, ◌*◌, List, [], ◌∷◌, ◌++◌, map, length, refl}
use Rattle.std.proofs.Math.Option.{Option, none, some}
use Rattle.songcode.specs.Song.{Sound, chord, again, silence, only, also, by_semicolon, by_line_end, Item, measure, loop, refer, Items, one, next}
use Rattle.songcode.specs.Description.WrittenPattern.{items_tokens}
use Rattle.songcode.specs.Answer.Playing.{measures_of}
use Rattle.songcode.specs.Answer.Tables.{beat_word}
use Rattle.songcode.specs.Answer.References.{put_in}
use Rattle.tokens.specs.TokenWords.{token_words}
use Rattle.score.specs.Places.{place_by, place_of, stretch_of}
use Rattle.player.specs.Walks.{row_of}
use Rattle.player.specs.Windows.{kept_of}
use Rattle.player.specs.Even.{spanned}

abbrev plain : ℕ → Sound
plain n = chord (record { base = n; extension = [] })

abbrev alone : Sound → Item
alone s = measure (record { sounds = only s; removers = 0 })

-- `A D;[% _ =;E]2;$7` with a removed position, where `$7` is `%;F`.
abbrev pattern : Items
pattern =
    next
    (next (one (measure (record { sounds = also (only (plain 0)) (plain 14); removers = 0 }))) by_semicolon
    (loop (next (one (measure (record { sounds = also (only again) silence; removers = 2 }))) by_line_end (alone (plain 20))) 2)) by_semicolon
    (refer 7)

abbrev definition : Items
definition = next (one (alone again)) by_semicolon (alone (plain 24))

abbrev words : List ℕ
words = (5 * 32768 + 7 * 2) ∷ 0 ∷ (token_words (items_tokens definition) ++ (0 ∷ token_words (items_tokens pattern)))

abbrev put : ℕ → Option Items
put n = some definition

walked : row_of 4 words (record { from = 6; to = length words }) ≡ map (map beat_word) (measures_of 4 none (put_in put pattern))
unfolding row_of stretch_of place_of place_by token_words items_tokens measures_of beat_word put_in
walked = refl

-- `A;G` cut at the front by 1-2, at the back by -7 and by -8.
abbrev two : List (List ℕ)
two = (1 ∷ 2 ∷ 3 ∷ 4 ∷ []) ∷ (5 ∷ 6 ∷ 7 ∷ 8 ∷ []) ∷ []

front : kept_of (record { measures = record { 0 = 1 }; beats = record { 0 = 2 } })
    (record { measures = record { 0 = 0 }; beats = record { 0 = 0 } }) two ≡ (7 ∷ 8 ∷ []) ∷ []
unfolding kept_of
front = refl

back : kept_of (record { measures = record { 0 = 0 }; beats = record { 0 = 0 } })
    (record { measures = record { 0 = 0 }; beats = record { 0 = 7 } }) two ≡ (1 ∷ []) ∷ []
unfolding kept_of
back = refl

gone : kept_of (record { measures = record { 0 = 0 }; beats = record { 0 = 0 } }) (record { measures = record { 0 = 0 }; beats = record { 0 = 8 } }) two ≡ []
unfolding kept_of
gone = refl

-- In measures of four beats, seven beats behind the first two stand in three of them, and two behind the first six in one.
over_three : spanned 4 2 7 ≡ 3
unfolding spanned
over_three = refl

within_one : spanned 4 6 2 ≡ 1
unfolding spanned
within_one = refl
