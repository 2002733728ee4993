-- The fields of the words of the tables: what they are, and the word without the one that the copy changes.
use Prim.Native.Nat.{ℕ, ◌+◌, ◌*◌, ◌^◌, ◌<◌}
use mathlib.Core.Path.{◌≡◌}
use mathlib.Core.Bool.{Bool, true, false}
use native.Mathlib.Omega.{arith}
use Rattle.songcode.specs.Answer.Tables.{head_bit}
use Rattle.songcode.specs.Description.Layout.{field, without}

-- A key: offset o, length l.
module _ (o l : ℕ) (near : o < 65536) (short : l < 512) where
  pub key_offset : field 15 16 (2 ^ 31 + o * 2 ^ 15 + l * 2 ^ 6) ≡ o
  unfolding field
  key_offset = omega arith

  pub key_length : field 6 9 (2 ^ 31 + o * 2 ^ 15 + l * 2 ^ 6) ≡ l
  unfolding field
  key_length = omega arith

  pub key_without : without 15 16 (2 ^ 31 + o * 2 ^ 15 + l * 2 ^ 6) ≡ 2 ^ 31 + l * 2 ^ 6
  unfolding without
  key_without = let e = key_offset in rw e (omega arith)

-- A section: header line h, first measure f, measures m, N, tempo t.
module _ (h f m n t : ℕ) (line : h < 131072) (first : f < 65536) (many : m < 65536) (meter : n < 64) (tempo : t < 512) where
  section_line : field 47 17 (h * 2 ^ 47 + f * 2 ^ 31 + m * 2 ^ 15 + n * 2 ^ 9 + t) ≡ h
  unfolding field
  section_line = omega arith

  pub section_without : without 47 17 (h * 2 ^ 47 + f * 2 ^ 31 + m * 2 ^ 15 + n * 2 ^ 9 + t) ≡ f * 2 ^ 31 + m * 2 ^ 15 + n * 2 ^ 9 + t
  unfolding without
  section_without = let e = section_line in rw e (omega arith)

-- A beat: base b, offset o, length l, head h.
module _ (b o l h : ℕ) (near : o < 65536) (short : l < 32) (head : h < 2) where
  pub beat_offset : field 10 16 (b * 2 ^ 26 + o * 2 ^ 10 + l * 2 ^ 5 + h * 2 ^ 4) ≡ o
  unfolding field
  beat_offset = omega arith

  pub beat_length_lem : field 5 5 (b * 2 ^ 26 + o * 2 ^ 10 + l * 2 ^ 5 + h * 2 ^ 4) ≡ l
  unfolding field
  beat_length_lem = omega arith

  pub beat_head : field 4 1 (b * 2 ^ 26 + o * 2 ^ 10 + l * 2 ^ 5 + h * 2 ^ 4) ≡ h
  unfolding field
  beat_head = omega arith

  beat_moved : without 10 16 (b * 2 ^ 26 + o * 2 ^ 10 + l * 2 ^ 5 + h * 2 ^ 4) ≡ b * 2 ^ 26 + l * 2 ^ 5 + h * 2 ^ 4
  unfolding without
  beat_moved = let e = beat_offset in rw e (omega arith)

  head_bit_lem : field 4 1 (b * 2 ^ 26 + l * 2 ^ 5 + h * 2 ^ 4) ≡ h
  unfolding field
  head_bit_lem = omega arith

  headless : without 4 1 (b * 2 ^ 26 + l * 2 ^ 5 + h * 2 ^ 4) ≡ b * 2 ^ 26 + l * 2 ^ 5
  unfolding without
  headless = let e = head_bit_lem in rw e (omega arith)

  pub beat_without : without 4 1 (without 10 16 (b * 2 ^ 26 + o * 2 ^ 10 + l * 2 ^ 5 + h * 2 ^ 4)) ≡ b * 2 ^ 26 + l * 2 ^ 5
  beat_without = rw beat_moved headless

-- An item: offset o, length l, first measure f, measures m, style s.
module _ (o l f m s : ℕ) (near : o < 65536) (short : l < 65536) (first : f < 65536) (many : m < 16384) (style : s < 4) where
  pub item_offset : field 48 16 (o * 2 ^ 48 + l * 2 ^ 32 + f * 2 ^ 16 + m * 2 ^ 2 + s) ≡ o
  unfolding field
  item_offset = omega arith

  pub item_length : field 32 16 (o * 2 ^ 48 + l * 2 ^ 32 + f * 2 ^ 16 + m * 2 ^ 2 + s) ≡ l
  unfolding field
  item_length = omega arith

  pub item_without : without 48 16 (o * 2 ^ 48 + l * 2 ^ 32 + f * 2 ^ 16 + m * 2 ^ 2 + s) ≡ l * 2 ^ 32 + f * 2 ^ 16 + m * 2 ^ 2 + s
  unfolding without
  item_without = let e = item_offset in rw e (omega arith)

-- A head takes one bit.
pub bit_small : (head : Bool) → head_bit head < 2
unfolding head_bit
bit_small true = omega arith
bit_small false = omega arith
