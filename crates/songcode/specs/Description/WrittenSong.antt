-- The description of a chart: metadata, then definitions, then sections, in blocks of lines of a text.
use Rattle.std.specs.Prelude.{ℕ, ◌≤◌, ◌≡◌, List, [], ◌∷◌, ◌++◌, map, true, false, length}
use Prim.Native.Char.{code}
use Rattle.std.proofs.Math.Option.{Option, none, some}
use Rattle.songcode.specs.Bytes.{Byte, placed, is_byte}
use Rattle.songcode.specs.Answer.Lines.{Line, Block}
use Rattle.songcode.specs.Song.{Items, Definition, Section, Song}
use Rattle.songcode.specs.Description.WrittenText.{Characters, WrittenLines, WrittenBlocks}
use Rattle.songcode.specs.Description.WrittenPattern.{Number, WrittenDefinitionText}
use Rattle.songcode.specs.Description.WrittenSection.{Each, Distinct, KeyLine, key_number, WrittenSection}

-- "Its first byte gives its kind": the block's first line begins with that byte, or with neither.
unfoldable pub BeginsWith : ℕ → List Byte → Type 0
BeginsWith c [] = ⊥
BeginsWith c (b ∷ bs) = is_byte c b ≡ true

unfoldable pub BeginsWithout : ℕ → List Byte → Type 0
BeginsWithout c [] = Unit {0}
BeginsWithout c (b ∷ bs) = is_byte c b ≡ false

-- The lines of blocks, one after another.
unfoldable pub lines_of : List Block → List Line
lines_of [] = []
lines_of (b ∷ bs) = (b.first ∷ b.others) ++ lines_of bs

unfoldable pub Metadata : List Block → Type 0
Metadata [] = Unit {0}
Metadata (b ∷ bs) = BeginsWith (code "@") b.first.text × Metadata bs

-- "`$n` alone on the first line, then zero or more pattern lines, as all its other lines are."
pub record DefinitionHead (bs : List Byte) (n : ℕ) : Type 0 where
  pub dollar : Byte
  pub digits : List Byte
  pub written : bs ≡ dollar ∷ digits
  pub signs : dollar.value ≡ code "$"
  pub number : Number 1 9999 digits n

unfoldable pub DefinitionLines : List Line → Option Items → Type 0
DefinitionLines [] none = Unit {0}
DefinitionLines [] (some r) = ⊥
DefinitionLines (l ∷ ls) none = ⊥
DefinitionLines (l ∷ ls) (some r) = WrittenDefinitionText l ls r

pub record WrittenDefinition (b : Block) (d : Definition) : Type 0 where
  pub head : DefinitionHead b.first.text d.id
  pub head_number : d.head ≡ b.first.number
  pub text : DefinitionLines b.others d.items

unfoldable pub id_of : Definition → ℕ
id_of d = d.id

-- A block that is no metadata and no definition is a section.
pub record SectionBlock (b : Block) (s : Section) : Type 0 where
  pub no_key : BeginsWithout (code "@") b.first.text
  pub no_head : BeginsWithout (code "$") b.first.text
  pub section : WrittenSection b s

-- "Metadata blocks come first, then definitions, then one or more sections."
pub record WrittenSong (bs : List Block) (s : Song) : Type 0 where
  pub metadata : List Block
  pub definition_blocks : List Block
  pub section_blocks : List Block
  pub written : bs ≡ metadata ++ (definition_blocks ++ section_blocks)
  pub of_metadata : Metadata metadata
  pub keys : Each KeyLine (lines_of metadata) s.keys
  pub keys_once : Distinct (map key_number s.keys)
  pub definitions : Each WrittenDefinition definition_blocks s.definitions
  pub definitions_once : Distinct (map id_of s.definitions)
  pub at_most : length s.definitions ≤ 26
  pub sections : Each SectionBlock section_blocks s.sections
  pub at_least : 1 ≤ length s.sections

-- A chart: "0 to 65,536 bytes of UTF-8, no zero byte", whose lines and blocks are a song.
pub record WrittenChart (bs : List ℕ) (s : Song) : Type 0 where
  pub short : length bs ≤ 65536
  pub characters : Characters bs
  pub lines : List Line
  pub blocks : List Block
  pub lines_written : WrittenLines (placed 0 bs) lines
  pub blocks_written : WrittenBlocks lines blocks
  pub song : WrittenSong blocks s
