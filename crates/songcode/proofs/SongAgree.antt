-- Songs: nothing is complained of in stage 2 exactly where one is described, and it is the song read; so there is one reading.
use Prim.Native.Nat.{◌≤◌}
use mathlib.Core.Path.{◌≡◌, refl, sym, ◌∙◌}
use mathlib.Core.Logic.{◌↔◌}
use mathlib.Core.List.{List, [], ◌∷◌, ◌++◌, flat_map}
use mathlib.Core.Bool.{true}
use lib.ListN.{length}
use native.Mathlib.Omega.{arith}
use Rattle.songcode.specs.Lists.{is_empty}
use Rattle.songcode.specs.Answer.Lines.{Block}
use Rattle.songcode.specs.Complaints.{Complaint, complain_if}
use Rattle.songcode.specs.Song.{Key, Definition, Section, Song}
use Rattle.songcode.specs.Answer.Sections.{section_faults, section_in}
use Rattle.songcode.specs.Answer.SongText.{section, block_kind, block_order, metadata_lines, metadata_faults, definition_blocks, section_blocks}
use Rattle.songcode.specs.Answer.SongText.{definitions_faults, definition_in, or_no_section, text_faults, song_in}
use Rattle.songcode.specs.Description.WrittenSection.{Each, KeyLine}
use Rattle.songcode.specs.Description.WrittenSong.{lines_of, SectionBlock, WrittenSong}
use Rattle.songcode.proofs.ListLaws.{true_is_not_false, nil_is_not_cons, append_is_nil, gather_nil, nil_gather, complain_if_nil}
use Rattle.songcode.proofs.EachLaws.{each_of, each_holds, each_mapped, each_length, holds_both}
use Rattle.songcode.proofs.BlockKinds.{Blocks, section_begins, begins_section, metadata_exact}
use Rattle.songcode.proofs.BlockOrder.{Ordered, order_sound, in_order, metadata_lines_lem, definition_blocks_lem, section_blocks_lem}
use Rattle.songcode.proofs.MetadataAgree.{keys_read, metadata_sound, metadata_complete}
use Rattle.songcode.proofs.DefinitionAgree.{definition_kind, definition_read, definitions_sound, definitions_complete}
use Rattle.songcode.proofs.SectionAgree.{section_exact, section_once}

-- "then one or more sections"
no_section_lem : (cs : List Complaint) (ss : List Block) → or_no_section cs ss ≡ [] → (cs ≡ []) × (1 ≤ length ss)
unfolding or_no_section is_empty
no_section_lem [] [] e = true_is_not_false refl (complain_if_nil true 9 0 e)
no_section_lem [] (s ∷ ss) e = (refl, omega arith)
no_section_lem (c ∷ cs) ss e = nil_is_not_cons (sym e)

some_section : (ss : List Block) → 1 ≤ length ss → or_no_section [] ss ≡ []
unfolding or_no_section is_empty complain_if
some_section [] h = absurd (omega arith)
some_section (s ∷ ss) h = refl

-- Section blocks.
section_of : (b : Block) → (block_kind b ≡ section) × (section_faults b ≡ []) → (s : Section) × SectionBlock b s
unfolding block_kind
section_of b h =
    let begins = section_begins b.first.text h.0 in
    let w = (section_exact b).0 h.1 in
    (w.0, record { no_key = begins.0; no_head = begins.1; section = w.1 })

section_kind : (b : Block) (s : Section) → SectionBlock b s → block_kind b ≡ section
unfolding block_kind
section_kind b s w = begins_section b.first.text w.no_key w.no_head

-- Blocks of which nothing is complained.
record Quiet (bs : List Block) : Type 0 where
  places : block_order 0 bs ≡ []
  keys : metadata_faults bs ≡ []
  definitions : definitions_faults (definition_blocks bs) ≡ []
  sections : flat_map section_faults (section_blocks bs) ≡ []
  at_least : 1 ≤ length (section_blocks bs)

quiet_of : (bs : List Block) → text_faults bs ≡ [] → Quiet bs
unfolding text_faults
quiet_of bs e =
    let to2 = block_order 0 bs ++ metadata_faults bs in
    let to3 = to2 ++ definitions_faults (definition_blocks bs) in
    let n = no_section_lem (to3 ++ flat_map section_faults (section_blocks bs)) (section_blocks bs) e in
    let h3 = append_is_nil to3 _ n.0 in
    let h2 = append_is_nil to2 _ h3.0 in
    let h1 = append_is_nil (block_order 0 bs) _ h2.0 in
    record { places = h1.0; keys = h1.1; definitions = h2.1; sections = h3.1; at_least = n.1 }

of_quiet : (bs : List Block) → Quiet bs → text_faults bs ≡ []
unfolding text_faults
of_quiet bs q =
    rw (q.places, q.keys, q.definitions, q.sections) (some_section (section_blocks bs) q.at_least)

-- Sound: blocks of which nothing is complained are a song.
song_sound : (bs : List Block) → text_faults bs ≡ [] → (s : Song) × WrittenSong bs s
unfolding Blocks
song_sound bs e =
    let q = quiet_of bs e in
    let o = order_sound bs q.places in
    let k = metadata_sound bs q.keys in
    let d = definitions_sound o.of_definitions o.definitions (rw (definition_blocks_lem o) at q.definitions) in
    let quiet = gather_nil section_faults o.of_sections (rw (section_blocks_lem o) at q.sections) in
    let s = each_of _ section_of o.of_sections (holds_both _ _ o.of_sections o.sections quiet) in (
      record { keys = k.0; definitions = d.0; sections = s.0 },
      record {
        metadata = o.of_metadata;
        definition_blocks = o.of_definitions;
        section_blocks = o.of_sections;
        written = o.written;
        of_metadata = (metadata_exact o.of_metadata).0 o.metadatas;
        keys = rw (metadata_lines_lem o) at k.1;
        keys_once = k.2;
        definitions = d.1;
        definitions_once = d.2;
        at_most = d.3;
        sections = s.1;
        at_least = rw (section_blocks_lem o, each_length s.1) at q.at_least;
      },
    )

same_song : {k l : List Key} {d e : List Definition} {s t : List Section} → k ≡ l → d ≡ e → s ≡ t
    → ◌≡◌ {A = Song} (record { keys = k; definitions = d; sections = s }) (record { keys = l; definitions = e; sections = t })
same_song a b c = cc

-- Complete: a song described is one of which nothing is complained, and the one read.
module _ {bs : List Block} {s : Song} (w : WrittenSong bs s) where
  ordered : Ordered bs
  unfolding Blocks
  ordered =
      record {
        of_metadata = w.metadata;
        of_definitions = w.definition_blocks;
        of_sections = w.section_blocks;
        written = w.written;
        metadatas = (metadata_exact w.metadata).1 w.of_metadata;
        definitions = each_holds _ (λ b d x. definition_kind x) w.definitions;
        sections = each_holds _ section_kind w.sections;
      }

  keys_there : Each KeyLine (metadata_lines bs) s.keys
  unfolding ordered
  keys_there = rw (metadata_lines_lem ordered) w.keys

  definitions_are : definition_blocks bs ≡ w.definition_blocks
  unfolding ordered
  definitions_are = definition_blocks_lem ordered

  pub metadata_are : metadata_lines bs ≡ lines_of w.metadata
  unfolding ordered
  metadata_are = metadata_lines_lem ordered

  pub sections_are : section_blocks bs ≡ w.section_blocks
  unfolding ordered
  sections_are = section_blocks_lem ordered

  quiet : Quiet bs
  quiet =
      record {
        places = in_order ordered;
        keys = metadata_complete bs keys_there w.keys_once;
        definitions = rw definitions_are (definitions_complete w.definitions w.definitions_once w.at_most);
        sections =
            rw sections_are
            (nil_gather section_faults w.section_blocks
            (each_holds _ (λ b t x. (section_exact b).1 (t, x.section)) w.sections));
        at_least = rw (sections_are, each_length w.sections) w.at_least;
      }

  pub song_once : song_in bs ≡ s
  unfolding song_in
  song_once =
      same_song (keys_read keys_there)
      (rw definitions_are (each_mapped definition_in (λ b d x. definition_read x) w.definitions))
      (rw sections_are (each_mapped section_in (λ b t x. section_once x.section) w.sections))

pub song_exact : (bs : List Block) → (text_faults bs ≡ []) ↔ ((s : Song) × WrittenSong bs s)
song_exact bs = (song_sound bs, λ w. of_quiet bs (quiet w.1))

pub song_reading : {bs : List Block} {s t : Song} → WrittenSong bs s → WrittenSong bs t → s ≡ t
song_reading w v = sym (song_once w) ∙ song_once v
