-- The lines of metadata, block by block.
use Prim.Native.Nat.{ℕ, zero, suc, ◌+◌, ◌<◌, ◌≤◌}
use mathlib.Core.Path.{◌≡◌, sym, ap, ◌∙◌}
use mathlib.Core.List.{List, [], ◌∷◌, ◌++◌, map, map-append, flat_map}
use mathlib.Core.Bool.{true}
use native.Mathlib.Omega.{arith}
use lib.ListN.{length, take}
use Rattle.songcode.specs.Complaints.{complain_if}
use Rattle.songcode.specs.Answer.Lines.{Line, Block, blocks}
use Rattle.songcode.specs.Answer.SongText.{metadata, section, block_kind, turn, block_order, lines_if, metadata_lines, text_faults}
use Rattle.songcode.specs.Answer.Answer.{blocks_of}
use Rattle.songcode.specs.Answer.Flat.{text_of, end_line}
use Rattle.songcode.proofs.ListLaws.{gather_append, nil_is_not_cons}
use Rattle.songcode.proofs.BlockKinds.{by_kind}
use Rattle.songcode.proofs.ChoiceLaws.{zero_is_not_one}
use Rattle.sections.specs.declared.blocks.Place.{Place}
use Rattle.sections.specs.declared.runs.Run.{Run}
use Rattle.sections.specs.declared.runs.Test.TheVariants.{Full}
use Rattle.sections.specs.Runs.{text_lines, passing, lines_of, Longest}
use Rattle.sections.specs.BlockParts.{block_at, lines_past, NextAt}
use Rattle.sections.proofs.NextLaws.{blocks_start, blocks_over}
use Rattle.laying.proofs.CleanLaws.{clean, no_metadata}
use Rattle.laying.proofs.LineNumberLaws.{run_behind}
use Rattle.laying.proofs.MetadataLaws.{begins_full, block_lines, block_past}
use Rattle.flat.specs.Sheets.{Sheet, puts}
use Rattle.flat.specs.Taken.{line_bytes}
use Rattle.flat.proofs.SheetLaws.{puts_append}

-- A block begins at the place, or the text ends there; the blocks from there on stand in order.
pub record Begun (s : List ℕ) (p : Place) : Type 0 where
  pub number : 1 ≤ p.number
  pub counted : p.number ≤ p.at + 1
  pub inside : p.at ≤ length s
  pub opens : p.at < length s → blocks (text_lines s p.number p.at) ≡ block_at s p.number p.at ∷ blocks (lines_past s p.number p.at)
  pub order : block_order 0 (blocks (text_lines s p.number p.at)) ≡ []

abbrev pub said_from : List ℕ → Place → List ℕ
said_from s p = line_bytes (metadata_lines (blocks (text_lines s p.number p.at)))

pub begun_start : (s : List ℕ) (p : Place) → text_faults (blocks_of s) ≡ [] → NextAt s 1 0 p → Begun s p
begun_start s p h n =
    record {
      number = n.number;
      counted = n.counted;
      inside = n.inside;
      opens = λ i. sym n.same ∙ n.there i;
      order = ap (block_order 0) (sym (blocks_start s ∙ n.same)) ∙ (clean (blocks_of s) h).order;
    }

pub said_start : (s : List ℕ) (p : Place) → NextAt s 1 0 p → said_from s p ≡ line_bytes (metadata_lines (blocks_of s))
said_start s p n = ap (λ (bs : List Block). line_bytes (metadata_lines bs)) (sym (blocks_start s ∙ n.same))

lines_append : (a b : List Line) → line_bytes (a ++ b) ≡ line_bytes a ++ line_bytes b
unfolding line_bytes
lines_append a b = ap (flat_map end_line) (map-append text_of a b) ∙ gather_append end_line (map text_of a) (map text_of b)

module _ (s : List ℕ) (p : Place) (c : Begun s p) (inside : p.at < length s) where
  abbrev block : Block
  block = block_at s p.number p.at

  module _ (kind : block_kind block ≡ metadata) (r : Run) (q : Place) (w : Longest s Full p.number p.at r)
      (v : NextAt s (p.number + r.lines) r.next q) where
    full : passing Full (block_at s p.number p.at).first ≡ true
    full = begins_full s p.number p.at (λ e. let z : metadata ≡ section = sym kind ∙ e in zero_is_not_one cc)

    opened : blocks (text_lines s p.number p.at) ≡ block ∷ blocks (text_lines s q.number q.at)
    opened =
        c.opens inside
        ∙ ap (λ bs. block_at s p.number p.at ∷ bs)
        (ap blocks (sym (block_past s p.number p.at inside full) ∙ sym (run_behind s Full p.number p.at r w)) ∙ v.same)

    here : lines_of s r ≡ block.first ∷ block.others
    here = w.lines ∙ block_lines s p.number p.at inside full

    pub begun_next : Begun s q
    unfolding block_order turn complain_if
    begun_next =
        let e : block_order 0 (block ∷ blocks (text_lines s q.number q.at)) ≡ [] = ap (block_order 0) (sym opened) ∙ c.order in
        record {
          number = v.number;
          counted = v.counted;
          inside = v.inside;
          opens = λ i. sym v.same ∙ v.there i;
          order = rw kind at e;
        }

    -- The next place stands further on, as the block has a line.
    some_taken : {A : Type 0} (k : ℕ) (xs : List A) (y : A) (ys : List A) → take k xs ≡ y ∷ ys → 1 ≤ k
    some_taken zero xs y ys e = nil_is_not_cons e
    some_taken (suc k) xs y ys e = omega arith

    pub begun_further : p.at < q.at
    unfolding lines_of
    begun_further =
        let a = v.onward in
        let b = w.counted in
        let k = some_taken r.lines (text_lines s r.number r.at) block.first block.others here in
        omega arith

    split : metadata_lines (blocks (text_lines s p.number p.at)) ≡ lines_of s r ++ metadata_lines (blocks (text_lines s q.number q.at))
    unfolding metadata_lines flat_map lines_if
    split = ap metadata_lines opened ∙ rw (kind, here)

    pub said_next : (x : Sheet) → puts (said_from s p) x ≡ puts (said_from s q) (puts (line_bytes (lines_of s r)) x)
    said_next x =
        let rest = metadata_lines (blocks (text_lines s q.number q.at)) in
        ap (λ (ls : List Line). puts (line_bytes ls) x) split
        ∙ ap (λ (bs : List ℕ). puts bs x) (lines_append (lines_of s r) rest)
        ∙ puts_append (line_bytes (lines_of s r)) (line_bytes rest) x

  behind_other : (b : Block) (bs : List Block) → (block_kind b ≡ metadata → ⊥) → block_order 0 (b ∷ bs) ≡ [] → metadata_lines (b ∷ bs) ≡ []
  unfolding block_order turn complain_if metadata_lines flat_map lines_if
  behind_other b bs n e =
      by_kind (block_kind b)
      (λ k. absurd (n k))
      (λ k. let g = rw k at e in rw k (no_metadata 0 bs g))
      (λ k. let g = rw k at e in rw k (no_metadata 1 bs g))

  pub said_end : (block_kind block ≡ metadata → ⊥) → (x : Sheet) → puts (said_from s p) x ≡ x
  unfolding line_bytes flat_map puts
  said_end n x =
      let o = c.opens inside in
      let none_left = ap metadata_lines o ∙ behind_other block (blocks (lines_past s p.number p.at)) n (ap (block_order 0) (sym o) ∙ c.order) in
      ap (λ (ls : List Line). puts (line_bytes ls) x) none_left

pub said_over : (s : List ℕ) (p : Place) (x : Sheet) → length s ≤ p.at → puts (said_from s p) x ≡ x
unfolding metadata_lines flat_map line_bytes puts
said_over s p x h = ap (λ (bs : List Block). puts (line_bytes (metadata_lines bs)) x) (blocks_over s p.number p.at h)
