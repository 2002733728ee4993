-- A section's first line is a header.
use Rattle.std.specs.Prelude.{ℕ, List, Bool, ◌&&◌, not, leb}
use Prim.Native.Char.{code}
use Rattle.songcode.specs.Lists.{taken}
use Rattle.songcode.specs.Bytes.{Byte, is_byte}
use Rattle.songcode.specs.Answer.Characters.{characters}

-- "name of 1 to 50 characters up to the first `!`"
unfoldable pub name_characters : List Byte → ℕ
unfolding characters taken is_byte
name_characters bs = characters (taken (λ b. not (is_byte (code "!") b)) bs)

unfoldable pub is_header : List Byte → Bool
unfolding name_characters
is_header bs = leb 1 (name_characters bs) && leb (name_characters bs) 50
