-- The metadata of a chart, block by block: which lines stand before a place, and which keys they say.
use Prim.Native.Nat.{ℕ, zero, suc, ◌+◌, ◌<◌, ◌≤◌}
use mathlib.Core.Path.{◌≡◌, refl, sym, ap, ◌∙◌}
use mathlib.Core.List.{List, [], ◌∷◌, ◌++◌, append-nil, append_assoc, flat_map}
use mathlib.Core.Logic.{◌⊎◌, inl, inr}
use mathlib.Core.Bool.{true, false, not}
use mathlib.Core.Option.{Option, none, some, or_else}
use native.Mathlib.Omega.{arith}
use borrow.Author.Tests.{ne_eqb}
use lib.Dec.{eqb}
use lib.ListN.{length, take}
use Rattle.songcode.specs.Lists.{provided◌then◌else◌, is_empty, taken, left}
use Rattle.songcode.specs.Bytes.{Byte}
use Rattle.songcode.specs.Answer.Lines.{Line, Block, blocks}
use Rattle.songcode.specs.Complaints.{complain_if}
use Rattle.songcode.specs.Answer.Answer.{blocks_of}
use Rattle.songcode.specs.Answer.Sections.{kind_of_line, kind_of}
use Rattle.songcode.specs.Answer.SongText.{BlockKind, metadata, definition, section, kind_of_text, block_kind, turn, block_order, lines_if}
use Rattle.songcode.specs.Answer.SongText.{metadata_lines, definition_if, definition_blocks, section_if, section_blocks, text_faults}
use Rattle.songcode.proofs.ListLaws.{by_cases, true_is_not_false, nil_is_not_cons}
use Rattle.songcode.proofs.BlockKinds.{by_kind}
use Rattle.songcode.proofs.ChoiceLaws.{zero_is_not_one}
use Rattle.settings.specs.declared.kinds.BlockKind.TheVariants.{Metadata, Definition, Section}
use Rattle.settings.specs.Kinds.{block_kind_is}
use Rattle.sections.specs.declared.blocks.Place.{Place}
use Rattle.sections.specs.declared.runs.Run.{Run}
use Rattle.sections.specs.declared.runs.Test.TheVariants.{Full}
use Rattle.sections.specs.Runs.{text_lines, passing, passes, blank_line, lines_of, Longest}
use Rattle.sections.specs.BlockParts.{block_at, lines_past, NextAt}
use Rattle.sections.specs.Slots.{slot_by, slot_of, Setting, setting_among}
use Rattle.sections.proofs.RunLaws.{lines_next}
use Rattle.sections.proofs.NextLaws.{blocks_start, blocks_over}
use Rattle.laying.specs.Metadata.{lines_before, MetadataEnds}
use Rattle.laying.proofs.CleanLaws.{clean, no_metadata}
use Rattle.laying.proofs.LineNumberLaws.{run_behind, run_passed, lines_reached}

-- The kind of a block by the kind that the code finds.
pub is_metadata : (k : BlockKind) → block_kind_is k ≡ Metadata → k ≡ metadata
unfolding block_kind_is
is_metadata metadata h = refl
is_metadata definition h = zero_is_not_one cc
is_metadata section h = zero_is_not_one cc

pub is_definition : (k : BlockKind) → block_kind_is k ≡ Definition → k ≡ definition
unfolding block_kind_is
is_definition metadata h = zero_is_not_one cc
is_definition definition h = refl
is_definition section h = zero_is_not_one cc

pub is_section : (k : BlockKind) → block_kind_is k ≡ Section → k ≡ section
unfolding block_kind_is
is_section metadata h = zero_is_not_one cc
is_section definition h = zero_is_not_one cc
is_section section h = refl

pub not_metadata : {k : BlockKind} → (k ≡ definition) ⊎ (k ≡ section) → k ≡ metadata → ⊥
not_metadata (inl e) h = let z : definition ≡ metadata = sym e ∙ h in zero_is_not_one cc
not_metadata (inr e) h = let z : section ≡ metadata = sym e ∙ h in zero_is_not_one cc

pub not_definition : {k : BlockKind} → (k ≡ metadata) ⊎ (k ≡ section) → k ≡ definition → ⊥
not_definition (inl e) h = let z : metadata ≡ definition = sym e ∙ h in zero_is_not_one cc
not_definition (inr e) h = let z : section ≡ definition = sym e ∙ h in zero_is_not_one cc

-- The first setting of lines behind others; blank lines say none.
among_append : (k : ℕ) (xs ys : List Line) → setting_among k (xs ++ ys) ≡ or_else (setting_among k xs) (setting_among k ys)
unfolding setting_among or_else provided◌then◌else◌
among_append k [] ys = refl
among_append k (x ∷ xs) ys = by_cases (eqb (slot_of x) k) (λ e. rw e) (λ e. rw e (among_append k xs ys))

there_none : (o : Option Setting) → or_else o none ≡ o
unfolding or_else
there_none none = refl
there_none (some x) = refl

among_both : (k : ℕ) (xs ys us vs : List Line) → setting_among k xs ≡ setting_among k ys → setting_among k us ≡ setting_among k vs
    → setting_among k (xs ++ us) ≡ setting_among k (ys ++ vs)
among_both k xs ys us vs e f = among_append k xs us ∙ rw (e, f) (sym (among_append k ys vs))

blank_slot : (l : Line) → blank_line l ≡ true → slot_of l ≡ 13
unfolding blank_line is_empty slot_of slot_by kind_of_line kind_of
blank_slot l e = of l.text refl e
  where
    of : (t : List Byte) → l.text ≡ t → is_empty t ≡ true → slot_of l ≡ 13
    of [] h f = rw h
    of (b ∷ bs) h f = true_is_not_false f refl

blank_among : (k : ℕ) → k < 8 → (ls : List Line) → setting_among k (taken blank_line ls) ≡ none
unfolding setting_among taken provided◌then◌else◌
blank_among k h [] = refl
blank_among k h (l ∷ ls) =
    by_cases (blank_line l)
    (λ e. let n : eqb 13 k ≡ false = ne_eqb 13 k (λ z. let w : ⊥ = omega arith in w) in rw (e, blank_slot l e, n) (blank_among k h ls))
    (λ e. rw e)

-- A block of metadata or of a definition begins with a line that is not blank.
pub begins_full : (s : List ℕ) (n at : ℕ) → (block_kind (block_at s n at) ≡ section → ⊥) → passing Full (block_at s n at).first ≡ true
unfolding block_kind kind_of_text passing passes is_empty
begins_full s n at h = of (block_at s n at).first.text h
  where
    of : (t : List Byte) → (kind_of_text t ≡ section → ⊥) → not (is_empty t) ≡ true
    of [] f = absurd (f refl)
    of (b ∷ bs) f = refl

module _ (s : List ℕ) (n at : ℕ) (inside : at < length s) (full : passing Full (block_at s n at).first ≡ true) where
  -- The lines of the block at a place, and those behind it.
  pub block_lines : taken (passing Full) (text_lines s n at) ≡ (block_at s n at).first ∷ (block_at s n at).others
  unfolding taken block_at provided◌then◌else◌
  block_lines = rw (lines_next s n at inside) (rw full refl)

  pub block_past : left (passing Full) (text_lines s n at) ≡ lines_past s n at
  unfolding left lines_past block_at provided◌then◌else◌
  block_past = rw (lines_next s n at inside) (rw full refl)

-- All blocks before the place are metadata, and these are their lines.
pub record Come (s : List ℕ) (p : Place) : Type 0 where
  pub number : 1 ≤ p.number
  pub counted : p.number ≤ p.at + 1
  pub inside : p.at ≤ length s
  pub opens : p.at < length s → blocks (text_lines s p.number p.at) ≡ block_at s p.number p.at ∷ blocks (lines_past s p.number p.at)
  pub order : block_order 0 (blocks (text_lines s p.number p.at)) ≡ []
  pub definitions : definition_blocks (blocks (text_lines s p.number p.at)) ≡ definition_blocks (blocks_of s)
  pub sections : section_blocks (blocks (text_lines s p.number p.at)) ≡ section_blocks (blocks_of s)
  pub lines : List Line
  pub before : text_lines s 1 0 ≡ lines ++ text_lines s p.number p.at
  pub said : List Line
  pub metadata_said : metadata_lines (blocks_of s) ≡ said ++ metadata_lines (blocks (text_lines s p.number p.at))
  pub keys : (k : ℕ) → k < 8 → setting_among k lines ≡ setting_among k said

pub come_start : (s : List ℕ) (p : Place) → text_faults (blocks_of s) ≡ [] → NextAt s 1 0 p → Come s p
unfolding setting_among
come_start s p h w =
    let same = blocks_start s ∙ w.same in
    record {
      number = w.number;
      counted = w.counted;
      inside = w.inside;
      opens = λ i. sym w.same ∙ w.there i;
      order = ap (block_order 0) (sym same) ∙ (clean (blocks_of s) h).order;
      definitions = ap definition_blocks (sym same);
      sections = ap section_blocks (sym same);
      lines = taken blank_line (text_lines s 1 0);
      before = w.lines;
      said = [];
      metadata_said = ap metadata_lines same;
      keys = λ k i. blank_among k i (text_lines s 1 0);
    }

module _ (s : List ℕ) (p : Place) (c : Come s p) (inside : p.at < length s) where
  abbrev pub block : Block
  block = block_at s p.number p.at

  module _ (kind : block_kind block ≡ metadata) (r : Run) (q : Place) (w : Longest s Full p.number p.at r)
      (v : NextAt s (p.number + r.lines) r.next q) where
    full : passing Full (block_at s p.number p.at).first ≡ true
    full = begins_full s p.number p.at (λ e. let z : metadata ≡ section = sym kind ∙ e in zero_is_not_one cc)

    behind : blocks (lines_past s p.number p.at) ≡ blocks (text_lines s q.number q.at)
    behind = ap blocks (sym (block_past s p.number p.at inside full) ∙ sym (run_behind s Full p.number p.at r w)) ∙ v.same

    opened : blocks (text_lines s p.number p.at) ≡ block ∷ blocks (text_lines s q.number q.at)
    opened = c.opens inside ∙ ap (λ bs. block_at s p.number p.at ∷ bs) behind

    gap : List Line
    gap = taken blank_line (text_lines s (p.number + r.lines) r.next)

    passed_over : text_lines s 1 0 ≡ (c.lines ++ ((block.first ∷ block.others) ++ gap)) ++ text_lines s q.number q.at
    unfolding gap
    passed_over =
        let b = (block_at s p.number p.at).first ∷ (block_at s p.number p.at).others in
        let e = run_passed s Full p.number p.at r w ∙ ap (λ ls. ls ++ text_lines s (p.number + r.lines) r.next)
        (block_lines s p.number p.at inside full) in
        let f : text_lines s p.number p.at ≡ (b ++ taken blank_line (text_lines s (p.number + r.lines) r.next)) ++ text_lines s q.number q.at
        = e ∙ ap (λ ls. b ++ ls) v.lines ∙ sym (append_assoc b _ _) in
        c.before ∙ ap (λ ls. c.lines ++ ls) f ∙ sym (append_assoc c.lines _ _)

    ordered : block_order 0 (blocks (text_lines s q.number q.at)) ≡ []
    unfolding block_order turn complain_if
    ordered = let e : block_order 0 (block ∷ blocks (text_lines s q.number q.at)) ≡ [] = ap (block_order 0) (sym opened) ∙ c.order in rw kind at e

    fewer : definition_blocks (blocks (text_lines s p.number p.at)) ≡ definition_blocks (blocks (text_lines s q.number q.at))
    unfolding definition_blocks flat_map definition_if
    fewer = ap definition_blocks opened ∙ rw kind

    left_over : section_blocks (blocks (text_lines s p.number p.at)) ≡ section_blocks (blocks (text_lines s q.number q.at))
    unfolding section_blocks flat_map section_if
    left_over = ap section_blocks opened ∙ rw kind

    more_said : metadata_lines (blocks_of s) ≡ (c.said ++ (block.first ∷ block.others)) ++ metadata_lines (blocks (text_lines s q.number q.at))
    unfolding metadata_lines flat_map lines_if
    more_said =
        c.metadata_said ∙ ap (λ bs. c.said ++ metadata_lines bs) opened ∙ rw kind
        (sym (append_assoc c.said (block.first ∷ block.others) (metadata_lines (blocks (text_lines s q.number q.at)))))

    keys_kept : (k : ℕ) → k < 8 → setting_among k (c.lines ++ ((block.first ∷ block.others) ++ gap))
        ≡ setting_among k (c.said ++ (block.first ∷ block.others))
    unfolding gap
    keys_kept k i =
        let b = block.first ∷ block.others in
        let g = blank_among k i (text_lines s (p.number + r.lines) r.next) in
        among_both k c.lines c.said (b ++ gap) b (c.keys k i) (among_append k b gap ∙ rw g (there_none (setting_among k b)))

    -- The next place stands further on, as the block has a line.
    some_taken : {A : Type 0} (k : ℕ) (xs : List A) (y : A) (ys : List A) → take k xs ≡ y ∷ ys → 1 ≤ k
    some_taken zero xs y ys e = nil_is_not_cons e
    some_taken (suc k) xs y ys e = omega arith

    pub come_further : p.at < q.at
    unfolding lines_of
    come_further =
        let a = v.onward in
        let b = w.counted in
        let k = some_taken r.lines (text_lines s r.number r.at) block.first block.others
        (w.lines ∙ block_lines s p.number p.at inside full) in
        omega arith

    pub come_next : Come s q
    come_next =
        record {
          number = v.number;
          counted = v.counted;
          inside = v.inside;
          opens = λ i. sym v.same ∙ v.there i;
          order = ordered;
          definitions = sym fewer ∙ c.definitions;
          sections = sym left_over ∙ c.sections;
          lines = c.lines ++ ((block.first ∷ block.others) ++ gap);
          before = passed_over;
          said = c.said ++ (block.first ∷ block.others);
          metadata_said = more_said;
          keys = keys_kept;
        }

  module _ (kind : block_kind block ≡ metadata → ⊥) where
    order_one : (b : Block) (bs : List Block) → (block_kind b ≡ metadata → ⊥) → block_order 0 (b ∷ bs) ≡ [] → block_order 1 (b ∷ bs) ≡ []
    unfolding block_order turn complain_if
    order_one b bs n e =
        by_kind (block_kind b)
        (λ k. absurd (n k))
        (λ k. let g = rw k at e in rw k g)
        (λ k. let g = rw k at e in rw k g)

    in_turn : block_order 1 (blocks (text_lines s p.number p.at)) ≡ []
    in_turn = let o = c.opens inside in rw o (order_one (block_at s p.number p.at) (blocks (lines_past s p.number p.at)) kind (rw o at c.order))

    pub come_end : MetadataEnds s p
    unfolding lines_of lines_before
    come_end =
        let none_left = no_metadata 0 (blocks (text_lines s p.number p.at)) in_turn in
        record {
          number = c.number;
          counted = c.counted;
          inside = c.inside;
          opens = c.opens;
          no_metadata = none_left;
          ordered = in_turn;
          definitions = c.definitions;
          sections = c.sections;
          keys = λ k i.
              ap (setting_among k) (lines_reached s 1 0 p.number p.at c.lines c.before inside)
              ∙ c.keys k i
              ∙ ap (setting_among k) (sym (c.metadata_said ∙ rw none_left (append-nil c.said)));
        }

-- A section is always left.
pub come_over : (s : List ℕ) (p : Place) → text_faults (blocks_of s) ≡ []
    → section_blocks (blocks (text_lines s p.number p.at)) ≡ section_blocks (blocks_of s) → length s ≤ p.at → ⊥
unfolding section_blocks flat_map
come_over s p h e over = (clean (blocks_of s) h).some_section (sym e ∙ ap section_blocks (blocks_over s p.number p.at over))
