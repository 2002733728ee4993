-- "A character is a code point": the lines of a good file are whole characters, and so are the names and phrases on them; so that "1 to 50
-- characters" and "1 to 100 characters" count code points.
use Rattle.std.specs.Prelude.{ℕ, ◌≤◌}
use mathlib.Core.List.{List, Memᴰ}
use Rattle.songcode.specs.Bytes.{Byte, placed, values}
use Rattle.songcode.specs.Answer.Lines.{Line}
use Rattle.songcode.specs.Song.{Key}
use Rattle.songcode.specs.Description.WrittenText.{Characters, how_many, WrittenLines}
use Rattle.songcode.specs.Description.WrittenSection.{Phrase, KeyLine, Header}

-- So many whole characters, no fewer and no more.
unfoldable pub Long : ℕ → ℕ → List Byte → Type 0
Long least most bs = (c : Characters (values bs)) × (least ≤ how_many c) × (how_many c ≤ most)

pub record WholeCharacters : Type 0 where
  pub line : (bs : List ℕ) (ls : List Line) (l : Line) → Characters bs → WrittenLines (placed 0 bs) ls → Memᴰ l ls → Characters (values l.text)
  -- "name of 1 to 50 characters up to the first `!`"
  pub name : (bs : List ℕ) (ls : List Line) (l : Line) → Characters bs → WrittenLines (placed 0 bs) ls → Memᴰ l ls
      → (h : Header l.text) → Long 1 50 h.title
  -- "name, artist, warning, end (1 to 100 characters)"
  pub phrase : (bs : List ℕ) (ls : List Line) (l : Line) (k : Key) → Characters bs → WrittenLines (placed 0 bs) ls → Memᴰ l ls
      → KeyLine l k → Phrase k.setting → Long 1 100 k.setting
