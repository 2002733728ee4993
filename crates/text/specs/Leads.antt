-- What a first byte announces, taken from the forms of RFC 3629, and the width of the character at a place.
use Rattle.std.specs.Prelude.{ℕ, zero, suc, ◌-◌, Option, Some, None, List, [], ◌∷◌, get_or, drop}
use Rattle.songcode.specs.Lists.{provided◌then◌else◌}
use Rattle.songcode.specs.Answer.Characters.{Form, form, forms, within, tails_follow, width_by}
use Rattle.text.specs.declared.characters.Lead.{Lead}

-- The lead of the first form whose range holds the byte.
unfoldable pub lead_by : List Form → ℕ → Option Lead
unfolding provided◌then◌else◌ within
lead_by [] b = None
lead_by (f ∷ fs) b =
    provided within f.first_low f.first_high b then Some (record { width = suc f.more; low = f.second_low; high = f.second_high }) else lead_by fs b

unfoldable pub lead_of : ℕ → Option Lead
unfolding lead_by forms
lead_of b = lead_by forms b

-- The width that a lead announces, if what it wants behind the first byte stands there.
unfoldable pub width_from : Lead → List ℕ → Option ℕ
unfolding provided◌then◌else◌ tails_follow
width_from l bs = provided tails_follow (form 0 0 0 l.low l.high) (l.width - 1) bs then Some l.width else None

-- How many characters of one byte stand in front.
unfoldable pub ascii_length : List ℕ → ℕ
unfolding provided◌then◌else◌ within
ascii_length [] = 0
ascii_length (b ∷ bs) = provided within 0x01 0x7F b then suc (ascii_length bs) else 0

-- A width as songcode counts it, 0 where no whole character stands.
unfoldable pub whole : ℕ → Option ℕ
whole zero = None
whole (suc n) = Some (suc n)

-- The width of the character at a place; past the end, where no byte stands, a zero is read.
abbrev pub width_at : List ℕ → ℕ → Option ℕ
width_at s i = whole (width_by forms (get_or s i 0) (drop (suc i) s))
