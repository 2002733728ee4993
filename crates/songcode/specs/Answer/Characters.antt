-- "0 to 65,536 bytes of UTF-8, no zero byte": characters by RFC 3629, and stage 1.
use Rattle.std.specs.Prelude.{ℕ, zero, suc, List, [], ◌∷◌, Bool, true, false, ◌&&◌, leb}
use Rattle.songcode.specs.Lists.{provided◌then◌else◌}
use Rattle.songcode.specs.Bytes.{Byte}

unfoldable pub within : ℕ → ℕ → ℕ → Bool
within low high b = leb low b && leb b high

-- RFC 3629, section 4: a first byte in this range is followed by so many bytes more, the second in its own range, every further one a tail.
pub record Form : Type 0 where
  pub first_low : ℕ
  pub first_high : ℕ
  pub more : ℕ
  pub second_low : ℕ
  pub second_high : ℕ

abbrev pub form : ℕ → ℕ → ℕ → ℕ → ℕ → Form
form a b n c d = record { first_low = a; first_high = b; more = n; second_low = c; second_high = d }

-- The forms as the RFC lists them; the first leaves out the zero byte, which document 01 bars.
unfoldable pub forms : List Form
forms =
    form 0x01 0x7F 0 0x80 0xBF
    ∷ form 0xC2 0xDF 1 0x80 0xBF
    ∷ form 0xE0 0xE0 2 0xA0 0xBF
    ∷ form 0xE1 0xEC 2 0x80 0xBF
    ∷ form 0xED 0xED 2 0x80 0x9F
    ∷ form 0xEE 0xEF 2 0x80 0xBF
    ∷ form 0xF0 0xF0 3 0x90 0xBF
    ∷ form 0xF1 0xF3 3 0x80 0xBF
    ∷ form 0xF4 0xF4 3 0x80 0x8F
    ∷ []

unfoldable pub is_tail : ℕ → Bool
unfolding within
is_tail b = within 0x80 0xBF b

-- So many tails stand in front.
unfoldable pub tails : ℕ → List ℕ → Bool
unfolding is_tail
tails zero bs = true
tails (suc n) [] = false
tails (suc n) (b ∷ bs) = is_tail b && tails n bs

-- What a form asks behind its first byte stands in front.
unfoldable pub tails_follow : Form → ℕ → List ℕ → Bool
unfolding within tails
tails_follow f zero bs = true
tails_follow f (suc n) [] = false
tails_follow f (suc n) (b ∷ bs) = within f.second_low f.second_high b && tails n bs

-- How many bytes the whole character at the front has: 0 where none stands there.
unfoldable pub width_by : List Form → ℕ → List ℕ → ℕ
unfolding provided◌then◌else◌ within tails_follow
width_by [] b bs = 0
width_by (f ∷ fs) b bs =
    provided within f.first_low f.first_high b then (provided tails_follow f f.more bs then suc f.more else 0) else width_by fs b bs

-- How many bytes stand before the first place, read character by character, with a zero or no whole character.
-- The first number counts the bytes that still belong to the character before.
unfoldable pub good_bytes : ℕ → List ℕ → ℕ
unfolding width_by forms
good_bytes inside [] = 0
good_bytes (suc k) (b ∷ bs) = suc (good_bytes k bs)
good_bytes zero (b ∷ bs) = elim (width_by forms b bs) [ zero ↦ 0 | suc k ↦ suc (good_bytes k bs) ]

-- "A character is a code point": every byte that is no tail begins one.
unfoldable pub characters : List Byte → ℕ
unfolding provided◌then◌else◌ is_tail
characters [] = 0
characters (b ∷ bs) = provided is_tail b.value then characters bs else suc (characters bs)
