-- The kinds that the code answers, case by case as songcode has them.
use Rattle.std.specs.Prelude.{ℕ, Bool}
use Rattle.songcode.specs.Bytes.{is_letter}
use Rattle.songcode.specs.Answer.Sections as sections
use Rattle.songcode.specs.Answer.SongText as songtext
use Rattle.settings.specs.declared.kinds.Kind.{Kind}
use Rattle.settings.specs.declared.kinds.Kind.TheVariants.{Key, Modifier, Pattern}
use Rattle.settings.specs.declared.kinds.BlockKind.{BlockKind}
use Rattle.settings.specs.declared.kinds.BlockKind.TheVariants.{Metadata, Definition, Section}

-- A byte, wherever it stands, is an ASCII letter.
abbrev pub letter : ℕ → Bool
letter b = is_letter (record { place = 0; value = b })

unfoldable pub kind_is : sections.Kind → Kind
kind_is sections.key_line = Key
kind_is sections.modifier_line = Modifier
kind_is sections.pattern_line = Pattern

unfoldable pub block_kind_is : songtext.BlockKind → BlockKind
block_kind_is songtext.metadata = Metadata
block_kind_is songtext.definition = Definition
block_kind_is songtext.section = Section
