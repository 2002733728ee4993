-- The description of lyric lines: words with a count or without, and their style.
use Rattle.std.specs.Prelude.{ℕ, ◌≤◌, ◌≡◌, List, ◌∷◌, ◌++◌, reverse, length}
use Prim.Native.Char.{code}
use Prim.Native.String.{String}
use Rattle.songcode.specs.Bytes.{Byte, values, ascii, is_blank}
use Rattle.songcode.specs.Description.WrittenText.{All, Stops}
use Rattle.songcode.specs.Description.WrittenPattern.{Number}

-- "A lyric line has a count if it ends in a space or tab, `_` and a count": the words before the blanks end in no blank.
pub record CountedLine (text words : List Byte) (n : ℕ) : Type 0 where
  pub gap : List Byte
  pub under : Byte
  pub digits : List Byte
  pub written : text ≡ words ++ (gap ++ (under ∷ digits))
  pub blanks : All is_blank gap
  pub parted : 1 ≤ length gap
  pub signs : under.value ≡ code "_"
  pub number : Number 1 9999 digits n
  pub solid : Stops is_blank (reverse words)

-- "begins and ends with `***`, or with `:::`, and is at least 7 bytes": something stands between the two marks.
pub record Marked (mark : String) (text inner : List Byte) : Type 0 where
  pub mark_before : List Byte
  pub mark_behind : List Byte
  pub written : text ≡ mark_before ++ (inner ++ mark_behind)
  pub opens : values mark_before ≡ ascii mark
  pub ends : values mark_behind ≡ ascii mark
  pub long : 1 ≤ length inner

-- "has style 1, or 2, and its text is what lies between; else style 0"
pub data StyledText : List Byte → ℕ → List Byte → Type 0 where
  informs : {text inner : List Byte} → Marked "***" text inner → StyledText text 1 inner
  for_crew : {text inner : List Byte} → Marked ":::" text inner → StyledText text 2 inner
  is_plain : {text : List Byte} → ((inner : List Byte) → Marked "***" text inner → ⊥) → ((inner : List Byte) → Marked ":::" text inner → ⊥)
      → StyledText text 0 text
