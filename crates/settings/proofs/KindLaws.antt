-- The kind of a line or block by its first bytes, of which one past the end is a zero.
use Prim.Native.Nat.{ℕ}
use mathlib.Core.Path.{◌≡◌, refl}
use mathlib.Core.List.{List, [], ◌∷◌}
use mathlib.Core.Bool.{◌&&◌}
use lib.Dec.{eqb}
use lib.ListN.{get_or}
use Rattle.songcode.specs.Lists.{provided◌then◌else◌}
use Rattle.songcode.specs.Bytes.{placed, is_byte, is_letter}
use Rattle.songcode.specs.Answer.Sections.{Kind, key_line, modifier_line, pattern_line, kind_of}
use Rattle.songcode.specs.Answer.SongText.{BlockKind, metadata, definition, section, kind_of_text}
use Rattle.songcode.proofs.ListLaws.{by_cases}
use Rattle.settings.specs.Kinds.{letter}

unfoldable pub kind_by : ℕ → ℕ → Kind
kind_by b c = provided eqb b 64 then key_line else provided eqb b 95 && letter c then modifier_line else pattern_line

pub kind_by_lem : (a : ℕ) (w : List ℕ) → kind_of (placed a w) ≡ kind_by (get_or w 0 0) (get_or w 1 0)
unfolding kind_of kind_by placed provided◌then◌else◌ is_byte is_letter
kind_by_lem a [] = refl
kind_by_lem a (b ∷ []) = by_cases (eqb b 95) (λ e. rw e) (λ e. rw e)
kind_by_lem a (b ∷ c ∷ w) = refl

unfoldable pub block_kind_by : ℕ → BlockKind
block_kind_by b = provided eqb b 64 then metadata else provided eqb b 36 then definition else section

pub block_kind_by_lem : (a : ℕ) (w : List ℕ) → kind_of_text (placed a w) ≡ block_kind_by (get_or w 0 0)
unfolding kind_of_text block_kind_by placed provided◌then◌else◌ is_byte
block_kind_by_lem a [] = refl
block_kind_by_lem a (b ∷ w) = refl
