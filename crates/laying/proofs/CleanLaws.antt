-- A text of which stage 2 does not complain: its blocks stand in order, none of them is faulted, and there is a section.
use Prim.Native.Nat.{ℕ, suc, max}
use mathlib.Core.Path.{◌≡◌, refl, sym}
use mathlib.Core.List.{List, [], ◌∷◌, ◌++◌, flat_map}
use mathlib.Core.Bool.{true}
use native.Mathlib.Omega.{arith}
use borrow.Author.Tests.{lt-ltb}
use lib.Dec.{ltb}
use Rattle.songcode.specs.Lists.{is_empty}
use Rattle.songcode.specs.Complaints.{Complaint, complain_if}
use Rattle.songcode.specs.Answer.Lines.{Block}
use Rattle.songcode.specs.Answer.Sections.{section_faults}
use Rattle.songcode.specs.Answer.SongText.{block_kind, turn, block_order, metadata_faults, lines_if, metadata_lines, definition_blocks, section_blocks}
use Rattle.songcode.specs.Answer.SongText.{definitions_faults, or_no_section, text_faults}
use Rattle.songcode.proofs.ListLaws.{true_is_not_false, nil_is_not_cons, append_is_nil, complain_if_nil}
use Rattle.songcode.proofs.BlockKinds.{by_kind}

pub record Clean (bs : List Block) : Type 0 where
  pub order : block_order 0 bs ≡ []
  pub definitions : definitions_faults (definition_blocks bs) ≡ []
  pub sections : flat_map section_faults (section_blocks bs) ≡ []
  pub some_section : section_blocks bs ≡ [] → ⊥

no_complaint : (cs : List Complaint) (ss : List Block) → or_no_section cs ss ≡ [] → (cs ≡ []) × (ss ≡ [] → ⊥)
unfolding or_no_section is_empty
no_complaint [] [] e = true_is_not_false refl (complain_if_nil true 9 0 e)
no_complaint [] (s ∷ ss) e = (refl, λ h. nil_is_not_cons (sym h))
no_complaint (c ∷ cs) ss e = nil_is_not_cons (sym e)

pub clean : (bs : List Block) → text_faults bs ≡ [] → Clean bs
unfolding text_faults
clean bs e =
    let a = block_order 0 bs ++ metadata_faults bs in
    let b = a ++ definitions_faults (definition_blocks bs) in
    let n = no_complaint (b ++ flat_map section_faults (section_blocks bs)) (section_blocks bs) e in
    let h = append_is_nil b (flat_map section_faults (section_blocks bs)) n.0 in
    let k = append_is_nil a (definitions_faults (definition_blocks bs)) h.0 in
    record { order = (append_is_nil (block_order 0 bs) (metadata_faults bs) k.0).0; definitions = k.1; sections = h.1; some_section = n.1 }

-- Behind a definition or a section no metadata stands.
pub no_metadata : (t : ℕ) (bs : List Block) → block_order (suc t) bs ≡ [] → metadata_lines bs ≡ []
unfolding block_order turn metadata_lines flat_map lines_if complain_if
no_metadata t [] e = refl
no_metadata t (b ∷ bs) e =
    let a = append_is_nil (complain_if (ltb (turn (block_kind b)) (suc t)) 3 b.first.number) (block_order (max (suc t) (turn (block_kind b))) bs) e in
    by_kind (block_kind b)
    (λ k. true_is_not_false (lt-ltb 0 (suc t) (omega arith)) (complain_if_nil (ltb 0 (suc t)) 3 b.first.number (rw k at a.0)))
    (λ k. let m : max (suc t) 1 ≡ suc t = omega arith in
    let g : block_order (max (suc t) 1) bs ≡ [] = rw k at a.1 in rw k (no_metadata t bs (rw m at g)))
    (λ k. let m : max (suc t) 2 ≡ suc (max t 1) = omega arith in
    let g : block_order (max (suc t) 2) bs ≡ [] = rw k at a.1 in rw k
    (no_metadata (max t 1) bs (rw m at g)))
