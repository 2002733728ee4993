-- The definition at a place: what stage 2 says of it, what its lines say, and what is left behind it.
use Prim.Native.Nat.{ℕ, suc, ◌+◌, ◌<◌, ◌≤◌}
use mathlib.Core.Path.{◌≡◌, refl, sym, ap, ◌∙◌, subst}
use mathlib.Core.List.{List, [], ◌∷◌, ◌++◌, map, flat_map}
use mathlib.Core.Bool.{true, false, not, ◌||◌}
use mathlib.Core.Option.{Option, none, some, get_or}
use native.Mathlib.Omega.{arith}
use borrow.Author.Tests.{leb-false, not-false}
use lib.Dec.{eqb, leb}
use lib.ListN.{length}
use Rattle.songcode.specs.Lists.{provided◌then◌else◌, any, prepend, is_some}
use Rattle.songcode.specs.Bytes.{Byte}
use Rattle.songcode.specs.Answer.Lines.{Line, Block, blocks}
use Rattle.songcode.specs.Complaints.{complain_if}
use Rattle.songcode.specs.Song.{Items, Definition}
use Rattle.songcode.specs.Answer.Sections.{behind_first, twice_by, twice, section_in}
use Rattle.songcode.specs.Answer.SongText.{definition, block_kind, turn, block_order, definition_if, definition_blocks, section_if, section_blocks}
use Rattle.songcode.specs.Answer.SongText.{head_in, heads_faults, first_line, definition_items, definition_faults, definition_in}
use Rattle.songcode.specs.Answer.PatternText.{depth, loops_deep, definition_text}
use Rattle.songcode.specs.Answer.Tokens.{tokens_of}
use Rattle.songcode.specs.Answer.References.{definition_of}
use Rattle.songcode.proofs.WrittenBefore.{write_items}
use Rattle.songcode.specs.Description.WrittenSong.{id_of}
use Rattle.songcode.proofs.ListLaws.{true_is_not_false, none_passes, append_is_nil, complain_if_nil}
use Rattle.songcode.proofs.ChoiceLaws.{is_some_some}
use Rattle.songcode.proofs.NumbersAgree.{count_exact, decimal_short}
use Rattle.songcode.proofs.PatternAgree.{kept_sound}
use Rattle.songcode.proofs.BlockKinds.{by_kind}
use Rattle.text.specs.Spans.{line_at}
use Rattle.sections.specs.declared.blocks.Place.{Place}
use Rattle.sections.specs.declared.blocks.DefinitionRead.{DefinitionRead}
use Rattle.sections.specs.declared.runs.Test.TheVariants.{Full}
use Rattle.sections.specs.Runs.{text_lines, passing, lines_of, lines_behind}
use Rattle.sections.specs.BlockParts.{block_at, lines_past, DefinitionAt, NextAt}
use Rattle.sections.specs.Onward.{Later}
use Rattle.sections.proofs.SectionLaws.{definition_says}
use Rattle.sections.proofs.ListLaws.{each_left}
use Rattle.sections.proofs.MeetLaws.{From, Firsts, from_lines, blocks_from_lem, firsts_later}
use Rattle.laying.specs.Laying.{run_tokens}
use Rattle.laying.specs.Loading.{blocks_from, definitions_from, Leaves}

-- What the lines of a definition without fault say: nothing, or items that are written as their tokens.
unfoldable pub Says : List Line → Option Items → Type 0
Says ls none = run_tokens ls ≡ []
Says ls (some r) = (run_tokens ls ≡ write_items r []) × (depth r ≤ loops_deep)

pub text_says : (ls : List Line) → definition_faults ls ≡ [] → Says ls (definition_items ls)
unfolding definition_faults definition_items Says run_tokens
text_says [] e = refl
text_says (l ∷ ls) e = go (definition_text l ls) refl (complain_if_nil (not (is_some (definition_text l ls))) 7 l.number e)
  where
    go : (o : Option Items) → definition_text l ls ≡ o → not (is_some o) ≡ false → Says (l ∷ ls) o
    go none h f = true_is_not_false refl f
    go (some r) h f = let k = kept_sound (λ q. true) (tokens_of l ls) r h in (k.0, k.1)

-- A number that no earlier definition has is not found.
pub fresh_none : (k : ℕ) (ds : List Definition) → any (λ x. eqb x k) (map id_of ds) ≡ false → definition_of k ds ≡ none
unfolding any id_of definition_of provided◌then◌else◌
fresh_none k [] e = refl
fresh_none k (d ∷ ds) e = let h = none_passes (eqb d.id k) (any (λ x. eqb x k) (map id_of ds)) e in rw h.0 (fresh_none k ds h.1)

-- The first lines of the definitions, and of the sections, of some blocks.
firsts_definitions : (n : ℕ) (bs : List Block) → Firsts n bs → Firsts n (definition_blocks bs)
unfolding Firsts definition_blocks flat_map definition_if
firsts_definitions n [] h = tt
firsts_definitions n (b ∷ bs) h =
    by_kind (block_kind b)
    (λ k. rw k (firsts_definitions n bs h.1))
    (λ k. rw k (h.0, firsts_definitions n bs h.1))
    (λ k. rw k (firsts_definitions n bs h.1))

firsts_sections : (n : ℕ) (bs : List Block) → Firsts n bs → Firsts n (section_blocks bs)
unfolding Firsts section_blocks flat_map section_if
firsts_sections n [] h = tt
firsts_sections n (b ∷ bs) h =
    by_kind (block_kind b)
    (λ k. rw k (firsts_sections n bs h.1))
    (λ k. rw k (firsts_sections n bs h.1))
    (λ k. rw k (h.0, firsts_sections n bs h.1))

-- A text with a byte behind its first has two.
behind_long : (bs : List Byte) → 0 < length (behind_first bs) → 2 ≤ length bs
unfolding behind_first
behind_long [] h = let z : ⊥ = omega arith in absurd z
behind_long (b ∷ bs) h = omega arith

-- Their heads stand behind that line.
unfoldable pub LaterHeads : ℕ → List Definition → Type 0
LaterHeads n [] = Unit {0}
LaterHeads n (d ∷ ds) = (n < d.head) × LaterHeads n ds

firsts_heads : (n : ℕ) (bs : List Block) → Firsts (n + 1) bs → LaterHeads n (map definition_in bs)
unfolding Firsts LaterHeads definition_in
firsts_heads n [] h = tt
firsts_heads n (b ∷ bs) h = let q = h.0 in (omega arith, firsts_heads n bs h.1)

module _ (s : List ℕ) (count : ℕ) (seen : List ℕ) (p : Place) (w : Leaves s count seen p) (inside : p.at < length s)
    (kind : block_kind (block_at s p.number p.at) ≡ definition)
    (e : DefinitionRead) (r : DefinitionAt s p.number p.at e) where
  abbrev block : Block
  block = block_at s p.number p.at

  abbrev rest : List Block
  rest = blocks (lines_past s p.number p.at)

  first_definition : definition_blocks (blocks_from s p) ≡ block ∷ definition_blocks rest
  unfolding definition_blocks flat_map definition_if
  first_definition = ap definition_blocks (w.opens inside) ∙ rw kind

  no_section_yet : section_blocks (blocks_from s p) ≡ section_blocks rest
  unfolding section_blocks flat_map section_if
  no_section_yet = ap section_blocks (w.opens inside) ∙ rw kind

  order_behind : block_order 1 rest ≡ []
  unfolding block_order turn complain_if
  order_behind = let g : block_order 1 (block ∷ rest) ≡ [] = ap (block_order 1) (sym (w.opens inside)) ∙ w.order in rw kind at g

  heads_parts : (complain_if (not (is_some (head_in block.first)) || leb 26 count) 6 block.first.number ≡ [])
      × (heads_faults (suc count) (definition_blocks rest) ≡ [])
  unfolding heads_faults
  heads_parts =
      append_is_nil (complain_if (not (is_some (head_in block.first)) || leb 26 count) 6 block.first.number)
      (heads_faults (suc count) (definition_blocks rest)) (ap (heads_faults count) (sym first_definition) ∙ w.heads)

  head_good : (not (is_some (head_in block.first)) ≡ false) × (leb 26 count ≡ false)
  head_good =
      none_passes (not (is_some (head_in block.first))) (leb 26 count)
      (complain_if_nil (not (is_some (head_in block.first)) || leb 26 count) 6 block.first.number heads_parts.0)

  pub few_before : count < 26
  few_before = leb-false 26 count head_good.1

  head_is : head_in block.first ≡ some e.id
  head_is =
      let n = is_some_some (head_in block.first) (not-false (is_some (head_in block.first)) head_good.0) in
      let i : e.id ≡ n.0 = r.id ∙ ap (λ (o : Option ℕ). get_or o 0) n.1 in
      n.1 ∙ ap some (sym i)

  pub id_small : e.id ≤ 9999
  unfolding head_in
  id_small = ((count_exact (behind_first block.first.text) e.id).0 head_is).at_most

  pub head_long : 2 ≤ length block.first.text
  unfolding head_in
  head_long =
      behind_long block.first.text
      (decimal_short (behind_first block.first.text) ((count_exact (behind_first block.first.text) e.id).0 head_is).decimal).0

  fresh_parts : (any (λ x. eqb x e.id) seen ≡ false) × (twice 6 head_in (e.id ∷ seen) (map first_line (definition_blocks rest)) ≡ [])
  unfolding twice twice_by prepend first_line
  fresh_parts =
      let g : twice 6 head_in seen (map first_line (block ∷ definition_blocks rest)) ≡ [] = ap (λ bs. twice 6 head_in seen (map first_line bs))
      (sym first_definition) ∙ w.fresh in
      let h : complain_if (any (λ x. eqb x e.id) seen) 6 block.first.number
      ++ twice 6 head_in (e.id ∷ seen) (map first_line (definition_blocks rest)) ≡ [] = rw head_is at g in
      let a = append_is_nil (complain_if (any (λ x. eqb x e.id) seen) 6 block.first.number)
      (twice 6 head_in (e.id ∷ seen) (map first_line (definition_blocks rest))) h in
      (complain_if_nil (any (λ x. eqb x e.id) seen) 6 block.first.number a.0, a.1)

  pub not_seen : any (λ x. eqb x e.id) seen ≡ false
  not_seen = fresh_parts.0

  texts_parts : (definition_faults block.others ≡ []) × (flat_map (λ b. definition_faults b.others) (definition_blocks rest) ≡ [])
  unfolding flat_map
  texts_parts =
      append_is_nil (definition_faults block.others) (flat_map (λ b. definition_faults b.others) (definition_blocks rest))
      (ap (flat_map (λ b. definition_faults b.others)) (sym first_definition) ∙ w.texts)

  abbrev pub read_definition : Definition
  read_definition = record { head = e.head; id = e.id; items = definition_items (lines_of s e.pattern) }

  pub lines_say : Says (lines_of s e.pattern) (definition_items (lines_of s e.pattern))
  lines_say = rw r.pattern (text_says block.others texts_parts.0)

  module _ (q : Place) (x : NextAt s (e.pattern.number + e.pattern.lines) e.pattern.next q) where
    behind : rest ≡ blocks_from s q
    unfolding lines_behind blocks_from
    behind = ap blocks (sym r.past) ∙ x.same

    pub definitions_left : definitions_from s p ≡ read_definition ∷ definitions_from s q
    unfolding definitions_from
    definitions_left = ap (map definition_in) first_definition ∙ rw (definition_says s p.number p.at e r, behind) refl

    pub leaves_next : Leaves s (count + 1) (e.id ∷ seen) q
    unfolding blocks_from
    leaves_next =
        let c : count + 1 ≡ suc count = omega arith in
        record {
          number = x.number;
          counted = x.counted;
          inside = x.inside;
          opens = λ i. sym x.same ∙ x.there i;
          order = ap (block_order 1) (sym behind) ∙ order_behind;
          sections = ap section_blocks (sym behind) ∙ sym no_section_yet ∙ w.sections;
          heads = rw (c, ← behind) heads_parts.1;
          fresh = rw (← behind) fresh_parts.1;
          texts = rw (← behind) texts_parts.1;
        }

    firsts_left : Firsts (p.number + 1) (blocks_from s q)
    unfolding lines_past
    firsts_left =
        let n = p.number in
        let f = blocks_from_lem (n + 1) (lines_past s n p.at)
        (each_left (From (n + 1)) (passing Full) (text_lines s (n + 1) (line_at s n p.at).next)
        (from_lines s (n + 1) (line_at s n p.at).next)) in
        subst (Firsts (n + 1)) behind f

    pub heads_later : LaterHeads e.head (definitions_from s q)
    unfolding definitions_from
    heads_later = rw r.head (firsts_heads p.number (definition_blocks (blocks_from s q)) (firsts_definitions (p.number + 1) (blocks_from s q) firsts_left))

    pub sections_later : Later e.head (map section_in (section_blocks (blocks_from s q)))
    sections_later = rw r.head (firsts_later p.number (section_blocks (blocks_from s q)) (firsts_sections (p.number + 1) (blocks_from s q) firsts_left))
