-- What later requests hang on, as definitions: how a number is written, and which measures of a text stand directly before a `:`. That fields of words
-- can be left out of a comparison is said in `Layout` (`without`).
use Rattle.std.specs.Prelude.{ℕ, zero, suc, ◌+◌, ◌/◌, ◌%◌, ◌≡◌, List, [], ◌∷◌, ◌++◌, Bool, true, false, ltb, length}
use Prim.Native.Char.{code}
use Prim.Native.String.{String}
use Rattle.std.proofs.Math.Option.{Option, some, bind}
use Rattle.songcode.specs.Lists.{provided◌then◌else◌, times}
use Rattle.songcode.specs.Bytes.{placed, ascii}
use Rattle.songcode.specs.Answer.Chords.{Chord}
use Rattle.songcode.specs.Song.{Separator, by_semicolon, by_line_end, by_colon, Item, measure, loop, refer, Items, one, next}
use Rattle.songcode.specs.Answer.Tokens.{tokens}
use Rattle.songcode.specs.Answer.PatternText.{items_in}
use Rattle.songcode.specs.Answer.Playing.{measures_of}
use Rattle.songcode.specs.Apart.{Decimal}

-- The digits of a number: "decimals without leading zero". The first number only counts down; the number itself is enough.
unfoldable pub digits_in : ℕ → ℕ → List ℕ
unfolding provided◌then◌else◌
digits_in zero n = (code "0" + n) ∷ []
digits_in (suc turns) n = provided ltb n 10 then (code "0" + n) ∷ [] else digits_in turns (n / 10) ++ ((code "0" + n % 10) ∷ [])

unfoldable pub number_written : ℕ → List ℕ
unfolding digits_in
number_written n = digits_in n n

-- Request 14: "directly before a `:`".
unfoldable pub breaks : Separator → Bool
breaks by_semicolon = false
breaks by_line_end = false
breaks (by_colon before behind) = true

-- The last of a row has the mark.
unfoldable pub with_last : Bool → List Bool → List Bool
with_last mark [] = []
with_last mark (b ∷ []) = mark ∷ []
with_last mark (b ∷ c ∷ row) = b ∷ with_last mark (c ∷ row)

unfoldable pub marked_by : Separator → List Bool → List Bool
unfolding provided◌then◌else◌ breaks with_last
marked_by s row = provided breaks s then with_last true row else row

-- A mark for each measure of a text, loops written out and references put in: "For a loop before the `:` it is the last measure of its last pass, and for a
-- `:` inside a loop it is set on every pass."
unfoldable mutual
  unfolding marked_by times

  pub breaks_item : Item → List Bool
  breaks_item (measure m) = false ∷ []
  breaks_item (loop r k) = times k (breaks_of r)
  breaks_item (refer k) = []

  pub breaks_of : Items → List Bool
  breaks_of (one i) = breaks_item i
  breaks_of (next r s i) = marked_by s (breaks_of r) ++ breaks_item i

-- The marks of a text as it is written.
unfoldable pub marks_of : String → Option (List Bool)
unfolding bind items_in tokens placed ascii breaks_of
marks_of text = bind (items_in (tokens (placed 0 (ascii text)))) (λ r. some (breaks_of r))

-- Every number is written as it is read; every measure that a text plays has its mark.
pub record Seams : Type 0 where
  pub number_written_lem : (n at : ℕ) → Decimal (placed at (number_written n)) n
  pub measure_marked : (n : ℕ) (last : Option Chord) (r : Items) → length (breaks_of r) ≡ length (measures_of n last r)
  pub colon_marked : marks_of "A:G;D" ≡ some (true ∷ false ∷ false ∷ [])
  pub last_pass_marked : marks_of "[A;G]2:D" ≡ some (false ∷ false ∷ false ∷ true ∷ false ∷ [])
  pub every_pass_marked : marks_of "[A:G]2" ≡ some (true ∷ false ∷ true ∷ false ∷ [])
