-- Base chords as the code finds them, by letter, sign and `m`; and their spellings, padded with zeros.
use Rattle.std.specs.Prelude.{ℕ, ◌+◌, List, [], ◌∷◌, Bool, ◌&&◌, not, eqb, leb, ltb, get_or, drop}
use Prim.Native.Char.{code}
use Rattle.std.proofs.Math.Option.{Option, none, some}
use Rattle.songcode.specs.Lists.{provided◌then◌else◌}
use Rattle.songcode.specs.Bytes.{begins, ascii}
use Rattle.songcode.specs.Answer.Chords.{spellings, rows}
use Rattle.songcode.specs.Answer.Chords as songcode
use Rattle.tokens.specs.declared.bases.Base.{Base}

-- The longest base as the code answers it: length 0 where none fits.
unfoldable pub base_of : Option songcode.Base → Base
base_of none = record { number = 0; length = 0 }
base_of (some b) = record { number = b.number; length = b.length }

-- A letter that has a row.
unfoldable pub is_letter : ℕ → Bool
is_letter b = leb (code "A") b && leb b (code "G")

-- A spelling without the zeros that pad it.
unfoldable pub unpadded : List ℕ → List ℕ
unfolding provided◌then◌else◌
unpadded [] = []
unpadded (b ∷ bs) = provided eqb b 0 then [] else b ∷ unpadded bs

-- A row of spellings, and the number of its first.
unfoldable pub row_of : ℕ → List (List ℕ)
unfolding spellings rows
row_of r = spellings (get_or rows r [])

unfoldable pub first_of : ℕ → ℕ
first_of r = get_or (0 ∷ 6 ∷ 10 ∷ 14 ∷ 20 ∷ 24 ∷ 28 ∷ []) r 0

-- An `m` stands in front that is none of a `maj`.
unfoldable pub has_minor : List ℕ → Bool
unfolding begins ascii
has_minor t = begins (ascii "m") t && not (begins (ascii "maj") t)

-- How far behind its letter a row has the chord with this sign; 0 where it has none.
unfoldable pub sign_of : ℕ → ℕ → ℕ
unfolding provided◌then◌else◌
sign_of r b =
    provided eqb b (code "#") then get_or (1 ∷ 0 ∷ 1 ∷ 2 ∷ 0 ∷ 1 ∷ 2 ∷ []) r 0
    else provided eqb b (code "b") then get_or (2 ∷ 1 ∷ 0 ∷ 1 ∷ 1 ∷ 0 ∷ 1 ∷ []) r 0
    else 0

-- How many bytes spell a letter with its sign.
unfoldable pub major_length : ℕ → ℕ
unfolding provided◌then◌else◌
major_length sign = provided eqb sign 0 then 1 else 2

-- A major chord of a row, or its minor one where an `m` stands behind it.
unfoldable pub with_minor : ℕ → ℕ → ℕ → List ℕ → Base
unfolding provided◌then◌else◌ has_minor
with_minor r number length w =
    provided has_minor (drop length w) then record { number = number + get_or (3 ∷ 2 ∷ 2 ∷ 3 ∷ 2 ∷ 2 ∷ 3 ∷ []) r 0; length = length + 1 }
    else record { number = number; length = length }

-- The row in which a number stands.
unfoldable pub row_of_number : ℕ → ℕ
unfolding provided◌then◌else◌
row_of_number n =
    provided ltb n 6 then 0 else provided ltb n 10 then 1 else provided ltb n 14 then 2 else provided ltb n 20 then 3 else provided ltb n 24 then 4 else
    provided ltb n 28 then 5 else 6
