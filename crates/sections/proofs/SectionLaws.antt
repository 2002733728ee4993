-- A section without fault is read as songcode reads it; so is every definition.
use Prim.Native.Nat.{ℕ, ◌+◌}
use mathlib.Core.Path.{◌≡◌, refl, sym, ap, ◌∙◌, subst}
use mathlib.Core.List.{List, [], ◌∷◌, map, flat_map, filter_map}
use mathlib.Core.Option.{Option, get_or, bind}
use Rattle.songcode.specs.Bytes.{Byte}
use Rattle.songcode.specs.Answer.Lines.{Line, Block}
use Rattle.songcode.specs.Song as song
use Rattle.songcode.specs.Answer.Keys.{key_place, time_in, bpm_in}
use Rattle.songcode.specs.Answer.Numbers.{repeat_in}
use Rattle.songcode.specs.Answer.Modifiers.{ModifierName, of_repeat, of_cut_start, of_cut_end, of_before, of_after, modifier_place, cut_in}
use Rattle.songcode.specs.Answer.Modifiers.{said_by, repeat_said, cut_start_said, cut_end_said, before_said, after_said}
use Rattle.songcode.specs.Answer.Sections.{key_in, modifier_on, body, from_dashes, header_faults, order, twice, key_said, modifier_said, faults}
use Rattle.songcode.specs.Answer.Sections.{pattern_run}
use Rattle.songcode.specs.Answer.Sections.{pattern_faults, lyric_faults, section_faults, pattern_in, lyric_line, lyrics_in, section_in}
use Rattle.songcode.specs.Answer.SongText.{definition_items, definition_in}
use Rattle.songcode.specs.Answer.Playing as playing
use Rattle.songcode.specs.Answer.Playing.{time_among, bpm_among, repeats}
use Rattle.songcode.proofs.ListLaws.{append_is_nil}
use Rattle.text.specs.Spans.{line_of}
use Rattle.settings.specs.Cuts.{cut_is}
use Rattle.sections.specs.declared.blocks.Parts.{Parts}
use Rattle.sections.specs.declared.blocks.SectionRead.{SectionRead}
use Rattle.sections.specs.declared.blocks.DefinitionRead.{DefinitionRead}
use Rattle.sections.specs.Runs.{lines_of, lines_behind}
use Rattle.sections.specs.Slots.{Setting, setting_among}
use Rattle.sections.specs.Values as values
use Rattle.sections.specs.Values.{KeysAre, ModifiersAre}
use Rattle.sections.specs.BlockParts.{block_at, early_lines, late_lines, behind_dashes, Placed, PartsAt, PartsRead, SectionAt, DefinitionAt}
use Rattle.sections.specs.SectionSays.{side_said, PartsSay, SectionSays}
use Rattle.sections.proofs.SaidLaws.{key_among, Tells, modifier_among}
use Rattle.sections.proofs.TellLaws.{repeat_tells, cut_start_tells, cut_end_tells, before_tells, after_tells}
use Rattle.sections.proofs.OrderLaws.{keys_early, modifiers_late}

-- A block without fault: its lines stand in order, and none of them is faulted.
pub clean_order : (b : Block) → section_faults b ≡ [] → (order [] (body b) ≡ []) × (flat_map faults (body b) ≡ [])
    × (pattern_faults b.first.number (pattern_run (body b)) ≡ [])
unfolding section_faults
clean_order b h =
    let v = (append_is_nil _ (lyric_faults (from_dashes b)) h).0 in
    let p = append_is_nil _ (pattern_faults b.first.number (pattern_run (body b))) v in
    let g = append_is_nil _ (flat_map faults (body b)) p.0 in
    let m = (append_is_nil _ (twice 8 modifier_said [] (body b)) g.0).0 in
    let k = (append_is_nil _ (twice 4 key_said [] (body b)) m).0 in
    ((append_is_nil (header_faults b.first) (order [] (body b)) k).1, g.1, p.1)

module _ (ls : List Line) (ordered : order [] ls ≡ []) (clean : flat_map faults ls ≡ []) where
  key_said_lem : (f : List Byte → Option ℕ) (k : song.KeyName) → bind (setting_among (key_place k) (early_lines ls)) (λ x. f x.text) ≡ bind
      (playing.setting_named k (filter_map key_in ls)) f
  key_said_lem f k = ap (λ (o : Option Setting). bind o (λ x. f x.text)) (keys_early k ls ordered) ∙ sym (key_among f k ls)

  modifier_said_lem : {B : Type 0} (m : ModifierName) (g : song.Modifier → Option B) (said : Setting → Option B) → Tells m g said
      → bind (setting_among (8 + modifier_place m) (late_lines ls)) said ≡ said_by g (filter_map modifier_on ls)
  modifier_said_lem m g said tells = ap (λ (o : Option Setting). bind o said) (modifiers_late m ls ordered) ∙ sym (modifier_among m g said tells ls clean)

first_number : (s : List ℕ) (n at : ℕ) → (block_at s n at).first.number ≡ n
unfolding block_at line_of
first_number s n at = refl

lyrics_said_lem : (ls : List Line) → map lyric_line (behind_dashes ls) ≡ lyrics_in ls
unfolding behind_dashes lyrics_in
lyrics_said_lem [] = refl
lyrics_said_lem (d ∷ ls) = refl

-- The parts, and what is read of them, tell the section.
pub parts_say : (s : List ℕ) (n at : ℕ) (r : Parts) → PartsAt s n at r → PartsSay s (section_in (block_at s n at)) r
unfolding section_in
parts_say s n at r w =
    record {
      header = w.header ∙ sym (first_number s n at);
      lyrics = ap (map lyric_line) w.lyrics ∙ lyrics_said_lem (from_dashes (block_at s n at));
    }

pub parts_read : (s : List ℕ) (n at : ℕ) (p : Parts) (r : SectionRead) → PartsAt s n at p → PartsRead s p r → SectionAt s n at r
parts_read s n at p r w e =
    let k : KeysAre (early_lines (body (block_at s n at))) r.keys = subst (λ (ls : List Line). KeysAre ls r.keys) w.early e.keys in
    let m : ModifiersAre s (late_lines (body (block_at s n at))) r.modifiers = subst (λ (ls : List Line). ModifiersAre s ls r.modifiers) w.late
    e.modifiers in
    record {
      header = e.header ∙ w.header;
      keys = k;
      modifiers = m;
      pattern_placed = subst (Placed s) (sym e.pattern) w.pattern_placed;
      pattern = ap (lines_of s) e.pattern ∙ w.pattern;
      lyrics_placed = subst (Placed s) (sym e.lyrics) w.lyrics_placed;
      lyrics = ap (lines_of s) e.lyrics ∙ w.lyrics;
      past = ap (lines_behind s) e.lyrics ∙ w.past;
      onward = rw e.lyrics w.onward;
    }

pub section_says : (s : List ℕ) (n at : ℕ) (r : SectionRead) → SectionAt s n at r → section_faults (block_at s n at) ≡ []
    → SectionSays s (section_in (block_at s n at)) r
unfolding section_in time_among bpm_among repeats values.time_said values.bpm_said values.repeat_said values.cut_said key_place modifier_place
section_says s n at r w h =
    let ls = body (block_at s n at) in
    let o = clean_order (block_at s n at) h in
    record {
      header = w.header ∙ sym (first_number s n at);
      time = w.keys.time ∙ ap (λ (x : Option ℕ). get_or x 0) (key_said_lem ls o.0 o.1 time_in song.time);
      bpm = w.keys.bpm ∙ ap (λ (x : Option ℕ). get_or x 511) (key_said_lem ls o.0 o.1 bpm_in song.bpm);
      repeat = w.modifiers.repeat ∙ ap (λ (x : Option ℕ). get_or x 1)
          (modifier_said_lem ls o.0 o.1 of_repeat repeat_said (λ x. repeat_in x.text) repeat_tells);
      front = w.modifiers.front ∙ ap cut_is (modifier_said_lem ls o.0 o.1 of_cut_start cut_start_said (λ x. cut_in x.text) cut_start_tells);
      back = w.modifiers.back ∙ ap cut_is (modifier_said_lem ls o.0 o.1 of_cut_end cut_end_said (λ x. cut_in x.text) cut_end_tells);
      before = ap (λ (x : Option Setting). bind x side_said) w.modifiers.before
          ∙ modifier_said_lem ls o.0 o.1 of_before before_said side_said before_tells;
      after = ap (λ (x : Option Setting). bind x side_said) w.modifiers.after ∙ modifier_said_lem ls o.0 o.1 of_after after_said side_said after_tells;
      pattern = ap (λ (x : List Line). get_or (pattern_in x) (song.named 0)) w.pattern;
      lyrics = ap (map lyric_line) w.lyrics ∙ lyrics_said_lem (from_dashes (block_at s n at));
    }

pub definition_says : (s : List ℕ) (n at : ℕ) (r : DefinitionRead) → DefinitionAt s n at r
    → definition_in (block_at s n at) ≡ record { head = r.head; id = r.id; items = definition_items (lines_of s r.pattern) }
unfolding definition_in
definition_says s n at r w = rw (w.head, w.id, w.pattern) (rw (first_number s n at) refl)
