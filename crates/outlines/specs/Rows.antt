-- A song as one row of words: its definitions, each behind its head and its outline, a mark, its sections, and the words of the keys table.
use Rattle.std.specs.Prelude.{ℕ, ◌+◌, min, false, not, length}
use mathlib.Core.List.{List, [], ◌∷◌, ◌++◌, flat_map}
use Rattle.std.proofs.Math.Option.{Option, none, some}
use Rattle.songcode.specs.Lists.{is_empty, is_some}
use Rattle.songcode.specs.Song.{Items, Definition, Song}
use Rattle.songcode.specs.Answer.PatternText.{depth, references}
use Rattle.songcode.specs.Answer.References.{items_of, put_in}
use Rattle.songcode.specs.Answer.Playing.{last_items}
use Rattle.songcode.specs.Answer.Meter.{all_fit, stray, count}
use Rattle.songcode.specs.Answer.Tables.{key_words}
use Rattle.score.specs.Places.{head_word}
use Rattle.score.specs.Even.{is_whole}
use Rattle.score.specs.Sections.{items_row, sections_row}
use Rattle.outlines.specs.declared.readings.Outline.{Outline}
use Rattle.outlines.specs.Sizes.{first_from}
use Rattle.outlines.specs.Words.{vacant, outline_word}

-- The least N up to 32 that all measures fit; 33 where there is none.
unfoldable pub sizes_of : Items → ℕ
unfolding first_from all_fit
sizes_of r = first_from (λ n. all_fit n r) 32 1

-- The outline of items: what they say as they are written, and what they say with references put in.
unfoldable pub outline_by : Items → Items → Outline
unfolding depth references is_empty sizes_of stray is_some last_items count is_whole
outline_by own put =
    record {
      empty = false;
      depth = depth own;
      refers = not (is_empty (references own));
      sizes = sizes_of put;
      wants = stray none put;
      chord = is_some (last_items none put);
      measures = min 65536 (count put);
      whole = is_whole put;
    }

unfoldable pub outline_of : (ℕ → Option Items) → Option Items → Outline
unfolding vacant outline_by put_in
outline_of find none = vacant
outline_of find (some r) = outline_by r (put_in find r)

-- The words of a definition's text.
unfoldable pub text_row : Option Items → List ℕ
unfolding items_row
text_row none = []
text_row (some r) = items_row r

-- A definition, where its references are put in by these items.
unfoldable pub definition_row : (ℕ → Option Items) → Definition → List ℕ
unfolding outline_word outline_of text_row
definition_row find d = head_word (2 + length (text_row d.items)) d.id ∷ outline_word (outline_of find d.items) ∷ text_row d.items

-- Some of a song's definitions, one behind the other.
unfoldable pub definitions_row : List Definition → List Definition → List ℕ
unfolding flat_map definition_row items_of
definitions_row all ds = flat_map (definition_row (items_of all)) ds

-- Its definitions and its sections; a word of 0 is the mark behind the last definition.
unfoldable pub blocks_row : Song → List ℕ
unfolding definitions_row sections_row
blocks_row s = definitions_row s.definitions s.definitions ++ (0 ∷ sections_row s s.sections)

unfoldable pub score_of : Song → List ℕ
unfolding blocks_row key_words
score_of s = blocks_row s ++ key_words s
