-- "CR LF, lone CR and LF each end a line; lines count from 1." Lines without the blanks at their ends, and blocks.
use Rattle.std.specs.Prelude.{ℕ, suc, List, [], ◌∷◌, reverse, Bool, true, false, eqb}
use Rattle.songcode.specs.Lists.{provided◌then◌else◌, left, is_empty}
use Rattle.songcode.specs.Bytes.{Byte, is_blank}

-- What a byte is to lines.
pub data Ending : Type 0 where
  lf cr inside : Ending

unfoldable pub ending : Byte → Ending
unfolding provided◌then◌else◌
ending b = provided eqb b.value 10 then lf else provided eqb b.value 13 then cr else inside

-- What stands first; the end of the text ends no line.
unfoldable pub ending_of : List Byte → Ending
unfolding ending
ending_of [] = inside
ending_of (b ∷ bs) = ending b

-- A text cut at its line ends: the first line and the others. A CR before a LF is passed over, as the LF ends the line.
pub record LineCut : Type 0 where
  pub first : List Byte
  pub others : List (List Byte)

unfoldable pub put : Ending → Ending → Byte → LineCut → LineCut
put inside next b c = record { first = b ∷ c.first; others = c.others }
put lf next b c = record { first = []; others = c.first ∷ c.others }
put cr lf b c = c
put cr cr b c = record { first = []; others = c.first ∷ c.others }
put cr inside b c = record { first = []; others = c.first ∷ c.others }

unfoldable pub cut_lines : List Byte → LineCut
unfolding put ending ending_of
cut_lines [] = record { first = []; others = [] }
cut_lines (b ∷ bs) = put (ending b) (ending_of bs) b (cut_lines bs)

-- "Spaces and tabs at both ends of a line are dropped".
unfoldable pub drop_last : (Byte → Bool) → List Byte → List Byte
unfolding left
drop_last p bs = reverse (left p (reverse bs))

unfoldable pub trimmed : List Byte → List Byte
unfolding left is_blank drop_last
trimmed bs = drop_last is_blank (left is_blank bs)

-- A line: its number, and its text without the blanks at its ends.
pub record Line : Type 0 where
  pub number : ℕ
  pub text : List Byte

unfoldable pub numbered : ℕ → List (List Byte) → List Line
unfolding trimmed
numbered n [] = []
numbered n (l ∷ ls) = record { number = n; text = trimmed l } ∷ numbered (suc n) ls

unfoldable pub lines : List Byte → List Line
unfolding cut_lines numbered
lines bs = numbered 1 ((cut_lines bs).first ∷ (cut_lines bs).others)

-- "A block is a longest run of lines that aren't blank."
pub record Block : Type 0 where
  pub first : Line
  pub others : List Line

-- The run of lines in front, and the blocks behind it.
pub record Runs : Type 0 where
  pub front : List Line
  pub rest : List Block

unfoldable pub shut : List Line → List Block → List Block
shut [] bs = bs
shut (l ∷ ls) bs = record { first = l; others = ls } ∷ bs

unfoldable pub join : Bool → Line → Runs → Runs
unfolding shut
join true l r = record { front = []; rest = shut r.front r.rest }
join false l r = record { front = l ∷ r.front; rest = r.rest }

unfoldable pub runs : List Line → Runs
unfolding join is_empty
runs [] = record { front = []; rest = [] }
runs (l ∷ ls) = join (is_empty l.text) l (runs ls)

unfoldable pub blocks : List Line → List Block
unfolding runs shut
blocks ls = shut (runs ls).front (runs ls).rest
