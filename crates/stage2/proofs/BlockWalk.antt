-- The walk over all lines goes block by block.
use Prim.Native.Nat.{ℕ, min, ◌≤◌}
use mathlib.Core.Path.{◌≡◌, refl, sym, ap, ◌∙◌}
use mathlib.Core.List.{List, [], ◌∷◌}
use mathlib.Core.Bool.{Bool, true, false}
use native.Mathlib.Omega.{arith}
use lib.Dec.{ltb}
use Rattle.songcode.specs.Lists.{provided◌then◌else◌, is_empty}
use Rattle.songcode.specs.Answer.Lines.{Line, Block, Runs, shut, join, runs, blocks}
use Rattle.grammar.specs.Checks.{first}
use Rattle.grammar.specs.Verdicts.{section_fine}
use Rattle.refusals.specs.Ranks.{no_section, none, only_if}
use Rattle.stage2.specs.Walk.{Known, Walk, step, between, nothing_pending, gap, fine_at, closed, full, stepped, finished, walked, unless}

-- A block's lines, up to its end, and what is known behind it.
unfoldable pub in_block : Walk → List Line → ℕ
in_block w [] = closed w.place w.pending
in_block w (l ∷ ls) = min (full w l).note (in_block (full w l).walk ls)

unfoldable pub after_block : Walk → List Line → Known
after_block w [] = w.known
after_block w (l ∷ ls) = after_block (full w l).walk ls

abbrev pub block_note : Known → Block → ℕ
block_note k b = in_block (gap k) (b.first ∷ b.others)

abbrev pub block_after : Known → Block → Known
block_after k b = after_block (gap k) (b.first ∷ b.others)

unfoldable pub by_blocks : Known → List Block → ℕ
by_blocks k [] = only_if (ltb k.turn 2) no_section
by_blocks k (b ∷ bs) = min (block_note k b) (by_blocks (block_after k b) bs)

no_section_le : (t : Bool) → only_if t no_section ≤ none
unfolding only_if provided◌then◌else◌
no_section_le true = omega arith
no_section_le false = omega arith

pub by_blocks_le : (k : Known) (bs : List Block) → by_blocks k bs ≤ none
unfolding by_blocks
by_blocks_le k [] = no_section_le (ltb k.turn 2)
by_blocks_le k (b ∷ bs) = let h = by_blocks_le (block_after k b) bs in omega arith

pub unless_none : (t : Bool) → unless t none ≡ none
unfolding unless provided◌then◌else◌
unless_none true = refl
unless_none false = refl

-- Between blocks nothing is pending.
gap_closed : closed between nothing_pending ≡ none
unfolding closed fine_at
gap_closed = let h = unless_none (section_fine first) in omega arith

-- What the lines add behind a place in the walk: the front of their runs to the block that is open, the rest as blocks.
abbrev adds : Walk → Runs → ℕ
adds w r = min (in_block w r.front) (by_blocks (after_block w r.front) r.rest)

shut_adds : (k : Known) (ls : List Line) (bs : List Block) → by_blocks k (shut ls bs) ≡ adds (gap k) (record { front = ls; rest = bs })
unfolding shut by_blocks in_block after_block
shut_adds k [] bs =
    let h = gap_closed in
    let j = by_blocks_le k bs in
    omega arith
shut_adds k (l ∷ ls) bs = refl

regroup : (x a b : ℕ) → min x (min a b) ≡ min (min x a) b
regroup x a b = omega arith

one_line : (w : Walk) (l : Line) (r : Runs) (f : Walk → ℕ) (t : Bool) → ((v : Walk) → f v ≡ adds v r)
    → min (provided t then step (closed w.place w.pending) (gap w.known) else full w l).note
    (f (provided t then step (closed w.place w.pending) (gap w.known) else full w l).walk)
    ≡ adds w (join t l r)
unfolding provided◌then◌else◌ join in_block after_block
one_line w l r f true h =
    ap (min (closed w.place w.pending)) (h (gap w.known) ∙ sym (shut_adds w.known r.front r.rest))
one_line w l r f false h =
    let v = (full w l).walk in
    ap (min (full w l).note) (h v) ∙ regroup (full w l).note (in_block v r.front) (by_blocks (after_block v r.front) r.rest)

walked_adds : (w : Walk) (ls : List Line) → walked w ls ≡ adds w (runs ls)
unfolding walked runs stepped finished in_block after_block by_blocks
walked_adds w [] = refl
walked_adds w (l ∷ ls) = one_line w l (runs ls) (λ v. walked v ls) (is_empty l.text) (λ v. walked_adds v ls)

pub walked_by_blocks : (k : Known) (ls : List Line) → walked (gap k) ls ≡ by_blocks k (blocks ls)
unfolding blocks
walked_by_blocks k ls = walked_adds (gap k) ls ∙ sym (shut_adds k (runs ls).front (runs ls).rest)
