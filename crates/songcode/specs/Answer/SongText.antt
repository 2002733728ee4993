-- Stage 2: metadata, definitions and sections over the whole file, what is complained of, and the song that they say.
use Rattle.std.specs.Prelude.{ℕ, suc, max, ◌||◌, not, leb, ltb}
use Prim.Native.Char.{code}
use mathlib.Core.List.{List, [], ◌∷◌, ◌++◌, map, flat_map, filter_map}
use Rattle.std.proofs.Math.Option.{Option, none, get_or}
use Rattle.songcode.specs.Lists.{provided◌then◌else◌, is_empty, is_some}
use Rattle.songcode.specs.Bytes.{Byte, is_byte}
use Rattle.songcode.specs.Answer.Chords.{Reading, chord_in}
use Rattle.songcode.specs.Answer.Lines.{Line, Block}
use Rattle.songcode.specs.Answer.Numbers.{count_in}
use Rattle.songcode.specs.Complaints.{Complaint, complaint, complain_if}
use Rattle.songcode.specs.Song.{Items, Definition, Song}
use Rattle.songcode.specs.Answer.Keys.{of_metadata}
use Rattle.songcode.specs.Answer.PatternText.{definition_text_as}
use Rattle.songcode.specs.Answer.Sections.{key_line, modifier_line, pattern_line, kind_of_line, key_faults, key_in, key_said, twice, behind_first}
use Rattle.songcode.specs.Answer.Sections.{section_faults_as, section_in_as}

-- "Its first byte gives its kind: `@` metadata, `$` definition, else section."
pub data BlockKind : Type 0 where
  metadata definition section : BlockKind

unfoldable pub kind_of_text : List Byte → BlockKind
unfolding provided◌then◌else◌ is_byte
kind_of_text [] = section
kind_of_text (b ∷ bs) = provided is_byte (code "@") b then metadata else provided is_byte (code "$") b then definition else section

unfoldable pub block_kind : Block → BlockKind
unfolding kind_of_text
block_kind b = kind_of_text b.first.text

-- "Metadata blocks come first, then definitions, then one or more sections."
unfoldable pub turn : BlockKind → ℕ
turn metadata = 0
turn definition = 1
turn section = 2

-- 3: "block kind after a later kind", on the block's first line; the number is the latest turn so far.
unfoldable pub block_order : ℕ → List Block → List Complaint
unfolding complain_if turn block_kind
block_order latest [] = []
block_order latest (b ∷ bs) =
    complain_if (ltb (turn (block_kind b)) latest) 3 b.first.number ++ block_order (max latest (turn (block_kind b))) bs

unfoldable pub lines_if : BlockKind → Block → List Line
lines_if metadata b = b.first ∷ b.others
lines_if definition b = []
lines_if section b = []

-- The lines of all metadata blocks: "every line is `@key`"; any other is an "other line out of place".
unfoldable pub metadata_lines : List Block → List Line
unfolding flat_map lines_if block_kind
metadata_lines bs = flat_map (λ b. lines_if (block_kind b) b) bs

unfoldable pub metadata_fault : Line → List Complaint
unfolding kind_of_line key_faults of_metadata
metadata_fault l =
    elim (kind_of_line l) [ key_line ↦ key_faults of_metadata l | modifier_line ↦ complaint 8 l.number ∷ [] | pattern_line ↦ complaint 8 l.number ∷ [] ]

unfoldable pub metadata_faults : List Block → List Complaint
unfolding metadata_lines metadata_fault flat_map twice key_said
metadata_faults bs = twice 4 key_said [] (metadata_lines bs) ++ flat_map metadata_fault (metadata_lines bs)

-- "`$n` alone on the first line"
unfoldable pub head_in : Line → Option ℕ
unfolding count_in behind_first
head_in l = count_in (behind_first l.text)

unfoldable pub definition_if : BlockKind → Block → List Block
definition_if metadata b = []
definition_if definition b = b ∷ []
definition_if section b = []

unfoldable pub section_if : BlockKind → Block → List Block
section_if metadata b = []
section_if definition b = []
section_if section b = b ∷ []

unfoldable pub definition_blocks : List Block → List Block
unfolding flat_map definition_if block_kind
definition_blocks bs = flat_map (λ b. definition_if (block_kind b) b) bs

unfoldable pub section_blocks : List Block → List Block
unfolding flat_map section_if block_kind
section_blocks bs = flat_map (λ b. section_if (block_kind b) b) bs

-- "At most 26, no `$n` twice": 6 where the head is "malformed, twice, or the 27th".
unfoldable pub heads_faults : ℕ → List Block → List Complaint
unfolding complain_if is_some head_in
heads_faults sofar [] = []
heads_faults sofar (b ∷ bs) =
    complain_if (not (is_some (head_in b.first)) || leb 26 sofar) 6 b.first.number ++ heads_faults (suc sofar) bs

unfoldable pub first_line : Block → Line
first_line b = b.first

-- A definition's text: none, or the items that its lines say.
unfoldable pub definition_items_as : Reading → List Line → Option Items
unfolding definition_text_as
definition_items_as read [] = none
definition_items_as read (l ∷ ls) = definition_text_as read l ls

unfoldable pub definition_faults_as : Reading → List Line → List Complaint
unfolding complain_if is_some definition_text_as
definition_faults_as read [] = []
definition_faults_as read (l ∷ ls) = complain_if (not (is_some (definition_text_as read l ls))) 7 l.number

unfoldable pub definitions_faults_as : Reading → List Block → List Complaint
unfolding heads_faults twice head_in first_line flat_map definition_faults_as
definitions_faults_as read bs = heads_faults 0 bs ++ twice 6 head_in [] (map first_line bs) ++ flat_map (λ b. definition_faults_as read b.others) bs

-- 9: "no section, nothing else in stage 2".
unfoldable pub or_no_section : List Complaint → List Block → List Complaint
unfolding complain_if is_empty
or_no_section [] sections = complain_if (is_empty sections) 9 0
or_no_section (c ∷ cs) sections = c ∷ cs

unfoldable pub text_faults_as : Reading → List Block → List Complaint
unfolding or_no_section block_order metadata_faults definitions_faults_as definition_blocks flat_map section_faults_as section_blocks
text_faults_as read bs =
    or_no_section
    (block_order 0 bs ++ metadata_faults bs ++ definitions_faults_as read (definition_blocks bs) ++ flat_map (section_faults_as read) (section_blocks bs))
    (section_blocks bs)

-- The song that the blocks say, if nothing is complained of.
unfoldable pub definition_in_as : Reading → Block → Definition
unfolding head_in definition_items_as
definition_in_as read b = record { head = b.first.number; id = get_or (head_in b.first) 0; items = definition_items_as read b.others }

unfoldable pub song_in_as : Reading → List Block → Song
unfolding filter_map key_in metadata_lines definition_in_as definition_blocks section_in_as section_blocks
song_in_as read bs =
    record {
      keys = filter_map key_in (metadata_lines bs);
      definitions = map (definition_in_as read) (definition_blocks bs);
      sections = map (section_in_as read) (section_blocks bs);
    }

-- The same with chords as they are read today.
unfoldable abbrev pub definition_items : List Line → Option Items
unfolding definition_items_as chord_in
definition_items = definition_items_as chord_in

unfoldable abbrev pub definition_faults : List Line → List Complaint
unfolding definition_faults_as chord_in
definition_faults = definition_faults_as chord_in

unfoldable abbrev pub definitions_faults : List Block → List Complaint
unfolding definitions_faults_as chord_in
definitions_faults = definitions_faults_as chord_in

unfoldable abbrev pub text_faults : List Block → List Complaint
unfolding text_faults_as chord_in
text_faults = text_faults_as chord_in

unfoldable abbrev pub definition_in : Block → Definition
unfolding definition_in_as chord_in
definition_in = definition_in_as chord_in

unfoldable abbrev pub song_in : List Block → Song
unfolding song_in_as chord_in
song_in = song_in_as chord_in
