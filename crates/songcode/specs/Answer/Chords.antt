-- "A chord is a base and an extension of 0 to 31 bytes": the 34 base chords, the longest that is taken, and the bytes that no extension holds.
use Rattle.std.specs.Prelude.{ℕ, suc, ◌+◌, ◌-◌, ◌%◌, Bool, false, ◌&&◌, not, eqb, leb, ltb, length, drop, get_or}
use Prim.Native.Char.{code}
use Prim.Native.String.{String}
use mathlib.Core.List.{List, [], ◌∷◌, ◌++◌, flat_map}
use Rattle.std.proofs.Math.Option.{Option, none, some}
use Rattle.songcode.specs.Lists.{provided◌then◌else◌, is_empty, any}
use Rattle.songcode.specs.Bytes.{Byte, values, ascii, same, begins, is_byte}

-- "seven rows by letter, numbered 0 to 33 as they stand"
unfoldable pub rows : List (List String)
rows =
    ("A" ∷ "A#" ∷ "Ab" ∷ "Am" ∷ "A#m" ∷ "Abm" ∷ [])
    ∷ ("B" ∷ "Bb" ∷ "Bm" ∷ "Bbm" ∷ [])
    ∷ ("C" ∷ "C#" ∷ "Cm" ∷ "C#m" ∷ [])
    ∷ ("D" ∷ "Db" ∷ "D#" ∷ "Dm" ∷ "Dbm" ∷ "D#m" ∷ [])
    ∷ ("E" ∷ "Eb" ∷ "Em" ∷ "Ebm" ∷ [])
    ∷ ("F" ∷ "F#" ∷ "Fm" ∷ "F#m" ∷ [])
    ∷ ("G" ∷ "Gb" ∷ "G#" ∷ "Gm" ∷ "Gbm" ∷ "G#m" ∷ [])
    ∷ []

unfoldable pub spellings : List String → List (List ℕ)
unfolding ascii
spellings [] = []
spellings (s ∷ ss) = ascii s ∷ spellings ss

-- The spelling of each base chord, at its number.
unfoldable pub bases : List (List ℕ)
unfolding flat_map spellings rows
bases = flat_map spellings rows

-- The spelling of a number, empty past the last; the number of a spelling.
unfoldable pub spelling_of : ℕ → List ℕ
unfolding bases
spelling_of number = get_or bases number []

unfoldable pub number_from : ℕ → List (List ℕ) → List ℕ → Option ℕ
unfolding provided◌then◌else◌ same
number_from n [] spelling = none
number_from n (s ∷ ss) spelling = provided same s spelling then some n else number_from (suc n) ss spelling

unfoldable pub number_of : List ℕ → Option ℕ
unfolding number_from bases
number_of spelling = number_from 0 bases spelling

-- The root that a spelling names, in semitones from C: its letter's (those of A to G are listed), a sharp one up, a flat one down.
unfoldable pub letter_root : ℕ → ℕ
letter_root letter = get_or (9 ∷ 11 ∷ 0 ∷ 2 ∷ 4 ∷ 5 ∷ 7 ∷ []) (letter - code "A") 0

unfoldable pub root_of : List ℕ → ℕ
unfolding provided◌then◌else◌ begins ascii letter_root
root_of [] = 0
root_of (letter ∷ rest) =
    (letter_root letter + (provided begins (ascii "#") rest then 1 else provided begins (ascii "b") rest then 11 else 0)) % 12

-- A spelling with an `m` names a minor chord, any other a major one.
unfoldable pub is_minor : List ℕ → Bool
unfolding any
is_minor spelling = any (eqb (code "m")) spelling

pub record Base : Type 0 where
  pub number : ℕ
  pub length : ℕ

-- Request 2: "A base ending in `m` isn't taken where `aj` follows the `m`; the next longest is."
unfoldable pub ends_in_m : List ℕ → Bool
unfolding provided◌then◌else◌ is_empty
ends_in_m [] = false
ends_in_m (b ∷ bs) = provided is_empty bs then eqb b (code "m") else ends_in_m bs

unfoldable pub is_passed_over : List ℕ → List ℕ → Bool
unfolding ends_in_m begins ascii
is_passed_over spelling word = ends_in_m spelling && begins (spelling ++ ascii "aj") word

-- A base that fits a word and isn't passed over is taken.
unfoldable pub is_taken : List ℕ → List ℕ → Bool
unfolding begins is_passed_over
is_taken spelling word = begins spelling word && not (is_passed_over spelling word)

-- "the base is the longest that fits": the later of two that fit, where it is longer.
unfoldable pub longer : Option Base → Base → Option Base
unfolding provided◌then◌else◌
longer none b = some b
longer (some a) b = provided ltb a.length b.length then some b else some a

unfoldable pub longest_from : (List ℕ → List ℕ → Bool) → ℕ → List (List ℕ) → List ℕ → Option Base → Option Base
unfolding provided◌then◌else◌ longer
longest_from fits n [] word best = best
longest_from fits n (s ∷ ss) word best =
    longest_from fits (suc n) ss word (provided fits s word then longer best (record { number = n; length = length s }) else best)

unfoldable pub longest_base : List Byte → Option Base
unfolding longest_from is_taken bases values
longest_base word = longest_from is_taken 0 bases (values word) none

-- "original (a base chord exactly)"
unfoldable pub is_base : List Byte → Bool
unfolding any same bases values
is_base word = any (λ s. same s (values word)) bases

-- A chord: the number of its base, and its extension.
pub record Chord : Type 0 where
  pub base : ℕ
  pub extension : List Byte

-- A way to read a word as a chord. What rests on it takes it as an argument (`tokens_as` and so up to `answer_as`): so the rules of before can be said too.
abbrev pub Reading : Type 0
Reading = List Byte → Option Chord

unfoldable pub chord_by : Option Base → List Byte → Option Chord
unfolding provided◌then◌else◌
chord_by none word = none
chord_by (some b) word =
    provided leb (length (drop b.length word)) 31 then some (record { base = b.number; extension = drop b.length word }) else none

-- Request 4: "An extension that holds `%`, `_`, `=` or `$` is to be refused."
unfoldable pub is_slip : Byte → Bool
unfolding any is_byte ascii
is_slip b = any (λ sign. is_byte sign b) (ascii "%_=$")

unfoldable pub without_slip : Option Chord → Option Chord
unfolding provided◌then◌else◌ any is_slip
without_slip none = none
without_slip (some c) = provided any is_slip c.extension then none else some c

unfoldable pub chord_in : List Byte → Option Chord
unfolding without_slip chord_by longest_base
chord_in word = without_slip (chord_by (longest_base word) word)
