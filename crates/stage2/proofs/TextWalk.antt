-- The walk over all blocks gives the least of all complaints of stage 2.
use Prim.Native.Nat.{ℕ, suc, min, max, ◌≤◌}
use mathlib.Core.Path.{◌≡◌, refl, ap, ◌∙◌}
use mathlib.Core.List.{List, [], ◌∷◌, ◌++◌, map, flat_map}
use mathlib.Core.Bool.{Bool, true, false, ◌||◌, not}
use native.Mathlib.Omega.{arith}
use borrow.Author.Tests.{lt-ltb, le-ltb, ltb-true, ltb-false}
use lib.Dec.{leb, ltb}
use Rattle.songcode.specs.Lists.{provided◌then◌else◌, is_empty, is_some, prepend}
use Rattle.songcode.specs.Answer.Lines.{Line, Block, blocks}
use Rattle.songcode.specs.Complaints.{Complaint, complain_if}
use Rattle.songcode.specs.Answer.Sections.{twice, twice_by, key_said, section_faults}
use Rattle.songcode.specs.Answer.SongText.{BlockKind, metadata, definition, section, block_kind, turn, block_order, lines_if, metadata_lines, metadata_fault}
use Rattle.songcode.specs.Answer.SongText.{metadata_faults, head_in, definition_if, section_if, definition_blocks, section_blocks, heads_faults, first_line}
use Rattle.songcode.specs.Answer.SongText.{definition_faults, definitions_faults}
use Rattle.songcode.proofs.ListLaws.{gather_append, by_cases}
use Rattle.songcode.proofs.BlockKinds.{by_kind}
use Rattle.refusals.specs.Ranks.{no_section, none, least, only_if}
use Rattle.stage2.specs.Walk.{Known, known, late, head_note, walked, at_first}
use Rattle.refusals.proofs.RankLaws.{least_append, least_both, min_assoc, min_swap, min_both}
use Rattle.stage2.proofs.BlockWalk.{block_note, block_after, by_blocks, walked_by_blocks}
use Rattle.stage2.proofs.SeenLaws.{seen_after, twice_append}
use Rattle.stage2.proofs.MetadataWalk.{metadata_least, metadata_block, metadata_block_after}
use Rattle.stage2.proofs.DefinitionWalk.{definition_block, definition_block_after}
use Rattle.stage2.proofs.SectionWalk.{section_block, section_block_after}

-- The complaints of blocks, where this is known of the blocks before.
abbrev definitions_least : ℕ → List ℕ → List Block → ℕ
definitions_least n hs bs =
    min (min (least (heads_faults n bs)) (least (twice 6 head_in hs (map first_line bs)))) (least (flat_map (λ b. definition_faults b.others) bs))

abbrev all : Known → List Block → ℕ
all k bs =
    min
    (min (min (least (block_order k.turn bs)) (metadata_least k.keys (metadata_lines bs))) (definitions_least k.sofar k.heads (definition_blocks bs)))
    (least (flat_map section_faults (section_blocks bs)))

-- A section is there, or comes.
abbrev lacking : ℕ → List Block → ℕ
lacking t bs = only_if (ltb t 2) (only_if (is_empty (section_blocks bs)) no_section)

-- One block more, group by group.
order_next : (t : ℕ) (b : Block) (bs : List Block) → least (block_order t (b ∷ bs)) ≡ min (late (turn (block_kind b)) t b.first)
    (least (block_order (max t (turn (block_kind b))) bs))
unfolding block_order late
order_next t b bs = least_append (complain_if (ltb (turn (block_kind b)) t) 3 b.first.number) (block_order (max t (turn (block_kind b))) bs)

metadata_more : (seen : List ℕ) (xs ys : List Line) → metadata_least seen (xs ++ ys) ≡ min (metadata_least seen xs)
    (metadata_least (seen_after 4 key_said seen xs) ys)
metadata_more seen xs ys =
    rw (twice_append 4 key_said seen xs ys, gather_append metadata_fault xs ys)
    (least_both (twice 4 key_said seen xs) (twice 4 key_said (seen_after 4 key_said seen xs) ys) (flat_map metadata_fault xs) (flat_map metadata_fault ys))

definitions_more : (k : Known) (b : Block) (bs : List Block)
    → definitions_least k.sofar k.heads (b ∷ bs) ≡ min (min (head_note k b.first) (least (definition_faults b.others)))
    (definitions_least (suc k.sofar) (prepend (head_in b.first) k.heads) bs)
unfolding heads_faults twice first_line flat_map head_note
definitions_more k b bs =
    let h = complain_if (not (is_some (head_in b.first)) || leb 26 k.sofar) 6 b.first.number in
    let h' = heads_faults (suc k.sofar) bs in
    let t = twice_by 6 (head_in b.first) k.heads b.first in
    let t' = twice 6 head_in (prepend (head_in b.first) k.heads) (map first_line bs) in
    let d = definition_faults b.others in
    let d' = flat_map (λ c. definition_faults c.others) bs in
    min_both (min (least h) (least t)) (min (least h') (least t')) (least d) (least d') (least_both h h' t t') (least_append d d')

-- Where one group splits off its first part, so does the whole.
first_second : (o o' m m' d s : ℕ) → min (min (min (min o o') (min m m')) d) s ≡ min (min o m) (min (min (min o' m') d) s)
first_second o o' m m' d s =
    ap (λ (x : ℕ). min (min x d) s) (min_swap o o' m m')
    ∙ (ap (λ (x : ℕ). min x s) (min_assoc (min o m) (min o' m') d) ∙ min_assoc (min o m) (min (min o' m') d) s)

first_third : (o o' m d d' s : ℕ) → min (min (min (min o o') m) (min d d')) s ≡ min (min o d) (min (min (min o' m) d') s)
first_third o o' m d d' s =
    ap (λ (x : ℕ). min (min x (min d d')) s) (min_assoc o o' m)
    ∙ (ap (λ (x : ℕ). min x s) (min_swap o (min o' m) d d') ∙ min_assoc (min o d) (min (min o' m) d') s)

first_fourth : (o o' m d s s' : ℕ) → min (min (min (min o o') m) d) (min s s') ≡ min (min o s) (min (min (min o' m) d) s')
first_fourth o o' m d s s' =
    ap (λ (x : ℕ). min (min x d) (min s s')) (min_assoc o o' m)
    ∙ (ap (λ (x : ℕ). min x (min s s')) (min_assoc o (min o' m) d) ∙ min_swap o (min (min o' m) d) s s')

module _ (b : Block) (bs : List Block) (k : BlockKind) (e : block_kind b ≡ k) where
  lines_found : metadata_lines (b ∷ bs) ≡ lines_if k b ++ metadata_lines bs
  unfolding metadata_lines flat_map
  lines_found = rw e

  definitions_found : definition_blocks (b ∷ bs) ≡ definition_if k b ++ definition_blocks bs
  unfolding definition_blocks flat_map
  definitions_found = rw e

  sections_found : section_blocks (b ∷ bs) ≡ section_if k b ++ section_blocks bs
  unfolding section_blocks flat_map
  sections_found = rw e

  order_found : (t : ℕ) → least (block_order t (b ∷ bs)) ≡ min (late (turn k) t b.first) (least (block_order (max t (turn k)) bs))
  order_found t = order_next t b bs ∙ ap (λ (x : BlockKind). min (late (turn x) t b.first) (least (block_order (max t (turn x)) bs))) e

module _ (k : Known) (b : Block) (bs : List Block) where
  abbrev Splits : Type 0
  Splits = all k (b ∷ bs) ≡ min (block_note k b) (all (block_after k b) bs)

  abbrev order : ℕ → ℕ
  order t = least (block_order (max k.turn t) bs)

  abbrev sections : ℕ
  sections = least (flat_map section_faults (section_blocks bs))

  of_metadata_lem : block_kind b ≡ metadata → Splits
  unfolding lines_if definition_if section_if turn
  of_metadata_lem e =
      rw (
        lines_found b bs metadata e,
        definitions_found b bs metadata e,
        sections_found b bs metadata e,
        order_found b bs metadata e k.turn,
        metadata_more k.keys (b.first ∷ b.others) (metadata_lines bs),
        metadata_block k b e,
        metadata_block_after k b e,
      )
      (first_second (late 0 k.turn b.first) (order 0) (metadata_least k.keys (b.first ∷ b.others))
      (metadata_least (seen_after 4 key_said k.keys (b.first ∷ b.others)) (metadata_lines bs))
      (definitions_least k.sofar k.heads (definition_blocks bs)) sections)

  of_definition : block_kind b ≡ definition → Splits
  unfolding lines_if definition_if section_if turn
  of_definition e =
      rw (
        lines_found b bs definition e,
        definitions_found b bs definition e,
        sections_found b bs definition e,
        order_found b bs definition e
            k.turn,
        definitions_more k b (definition_blocks bs),
        definition_block k b e,
        definition_block_after k b e,
      )
      (first_third (late 1 k.turn b.first) (order 1) (metadata_least k.keys (metadata_lines bs))
      (min (head_note k b.first) (least (definition_faults b.others)))
      (definitions_least (suc k.sofar) (prepend (head_in b.first) k.heads) (definition_blocks bs)) sections)

  of_section_lem : block_kind b ≡ section → Splits
  unfolding lines_if definition_if section_if turn flat_map
  of_section_lem e =
      rw (
        lines_found b bs section e,
        definitions_found b bs section e,
        sections_found b bs section e,
        order_found b bs section e k.turn,
        least_append (section_faults b) (flat_map section_faults (section_blocks bs)),
        section_block k b e,
        section_block_after k b e,
      )
      (first_fourth (late 2 k.turn b.first) (order 2) (metadata_least k.keys (metadata_lines bs))
      (definitions_least k.sofar k.heads (definition_blocks bs)) (least (section_faults b)) sections)

  splits : Splits
  splits = by_kind (block_kind b) of_metadata_lem of_definition of_section_lem

-- Whether a section is lacking is told by the latest turn and the blocks to come.
lacking_metadata : (t : ℕ) (n : ℕ) → only_if (ltb t 2) n ≡ only_if (ltb (max t 0) 2) n
lacking_metadata t n = let e : max t 0 ≡ t = omega arith in rw e refl

lacking_definition : (t : ℕ) (n : ℕ) → only_if (ltb t 2) n ≡ only_if (ltb (max t 1) 2) n
lacking_definition t n =
    by_cases
    (ltb t 2)
    (λ e. let h = ltb-true t 2 e in rw (e, lt-ltb (max t 1) 2 (omega arith)) refl)
    (λ e. let h = ltb-false t 2 e in rw (e, le-ltb (max t 1) 2 (omega arith)) refl)

only_none : (t : Bool) → only_if t none ≡ none
unfolding only_if provided◌then◌else◌
only_none true = refl
only_none false = refl

lacking_section : (t : ℕ) (n : ℕ) → only_if (ltb t 2) none ≡ only_if (ltb (max t 2) 2) n
unfolding only_if provided◌then◌else◌
lacking_section t n = rw (le-ltb (max t 2) 2 (omega arith)) (only_none (ltb t 2))

module _ (k : Known) (b : Block) (bs : List Block) where
  lacking_next : lacking k.turn (b ∷ bs) ≡ lacking (block_after k b).turn bs
  unfolding section_if is_empty only_if provided◌then◌else◌
  lacking_next =
      by_kind
      (block_kind b)
      (λ e. rw (sections_found b bs metadata e, metadata_block_after k b e) (lacking_metadata k.turn (only_if (is_empty (section_blocks bs)) no_section)))
      (λ e. rw (sections_found b bs definition e, definition_block_after k b e) (lacking_definition k.turn (only_if (is_empty (section_blocks bs)) no_section)))
      (λ e. rw (sections_found b bs section e, section_block_after k b e) (lacking_section k.turn (only_if (is_empty (section_blocks bs)) no_section)))

-- The complaints of no block.
all_none : (k : Known) → all k [] ≡ none
unfolding block_order metadata_lines definition_blocks section_blocks flat_map twice heads_faults least
all_none k = refl

lacking_le : (a b : Bool) → only_if a (only_if b no_section) ≤ none
unfolding only_if provided◌then◌else◌
lacking_le true true = omega arith
lacking_le true false = omega arith
lacking_le false b = omega arith

no_blocks : (k : Known) → only_if (ltb k.turn 2) no_section ≡ min (all k []) (lacking k.turn [])
unfolding section_blocks flat_map is_empty only_if provided◌then◌else◌
no_blocks k = let l = lacking_le (ltb k.turn 2) true in rw (all_none k) (omega arith)

by_blocks_all : (k : Known) (bs : List Block) → by_blocks k bs ≡ min (all k bs) (lacking k.turn bs)
unfolding by_blocks
by_blocks_all k [] = no_blocks k
by_blocks_all k (b ∷ bs) =
    rw (splits k b bs, lacking_next k b bs, min_assoc (block_note k b) (all (block_after k b) bs) (lacking (block_after k b).turn bs))
    (ap (min (block_note k b)) (by_blocks_all (block_after k b) bs))

-- All complaints of stage 2 but 9.
abbrev pub block_faults : List Block → List Complaint
block_faults bs = block_order 0 bs ++ metadata_faults bs ++ definitions_faults (definition_blocks bs) ++ flat_map section_faults (section_blocks bs)

faults_all : (bs : List Block) → least (block_faults bs) ≡ all (known 0 [] 0 []) bs
unfolding metadata_faults definitions_faults
faults_all bs =
    let o = block_order 0 bs in
    let ls = metadata_lines bs in
    let ds = definition_blocks bs in
    let m1 = twice 4 key_said [] ls in
    let m2 = flat_map metadata_fault ls in
    let d1 = heads_faults 0 ds in
    let d2 = twice 6 head_in [] (map first_line ds) in
    let d3 = flat_map (λ b. definition_faults b.others) ds in
    let s = flat_map section_faults (section_blocks bs) in
    rw (
      least_append (o ++ (m1 ++ m2) ++ (d1 ++ d2 ++ d3)) s,
      least_append (o ++ (m1 ++ m2)) (d1 ++ d2 ++ d3),
      least_append o (m1 ++ m2),
      least_append
          m1 m2,
      least_append (d1 ++ d2) d3,
      least_append d1 d2,
    ) refl

-- The walk over the lines of a text.
pub walked_least : (ls : List Line) → walked at_first ls ≡ min (least (block_faults (blocks ls))) (only_if (is_empty (section_blocks (blocks ls))) no_section)
unfolding only_if provided◌then◌else◌
walked_least ls =
    walked_by_blocks (known 0 [] 0 []) ls ∙ (by_blocks_all (known 0 [] 0 []) (blocks ls) ∙ rw (faults_all (blocks ls)) refl)
