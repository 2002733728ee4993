-- Request 1: the lines and blocks of a copy are the rows that it was made of.
use Prim.Native.Nat.{ℕ, suc, ◌+◌}
use mathlib.Core.Path.{◌≡◌, refl, ap, sym, subst, ◌∙◌}
use mathlib.Core.List.{List, [], ◌∷◌, ◌++◌, append_assoc, append-nil, flat_map}
use mathlib.Core.Bool.{false}
use native.Mathlib.Omega.{arith}
use lib.ListN.{length}
use Rattle.songcode.specs.Lists.{provided◌then◌else◌, is_empty}
use Rattle.songcode.specs.Bytes.{Byte, placed}
use Rattle.songcode.specs.Answer.Lines.{Line, Block, ending, lines, blocks}
use Rattle.songcode.specs.Answer.Answer.{blocks_of}
use Rattle.songcode.specs.Description.WrittenText.{All, Solid, Inside, Cuts, last_line, ends_lf, Trims, Counts, no_line}
use Rattle.songcode.specs.Description.WrittenText.{a_line, WrittenLines, is_blank_line, NotBlank, BlankOrEnd, WrittenBlocks, no_block, a_blank, a_block}
use Rattle.songcode.specs.Answer.Flat.{end_line, further_rows, copy_rows, copy_bytes}
use Rattle.songcode.proofs.ByteLaws.{placed_append}
use Rattle.songcode.proofs.LinesAgree.{lines_complete}
use Rattle.songcode.proofs.BlocksAgree.{blocks_complete}

-- A row that is a line as it stands, wherever it is put: no line ends in it, no blank at either end.
pub record Clean (r : List ℕ) : Type 0 where
  pub inside : (at : ℕ) → Inside (placed at r)
  pub solid : (at : ℕ) → Solid (placed at r)

unfoldable pub AllClean : List (List ℕ) → Type 0
AllClean [] = Unit {0}
AllClean (r ∷ rs) = Clean r × AllClean rs

pub clean_append : (a b : List (List ℕ)) → AllClean a → AllClean b → AllClean (a ++ b)
unfolding AllClean
clean_append [] b h k = k
clean_append (r ∷ a) b h k = (h.0, clean_append a b h.1 k)

-- A row in a block: it is no blank line.
pub data Filled : List ℕ → Type 0 where
  filled : {b : ℕ} {r : List ℕ} → Filled (b ∷ r)

unfoldable pub AllFilled : List (List ℕ) → Type 0
AllFilled [] = Unit {0}
AllFilled (r ∷ rs) = Filled r × AllFilled rs

-- Blocks of such rows, none of them empty.
unfoldable pub Printed : List (List (List ℕ)) → Type 0
unfolding AllClean AllFilled
Printed [] = Unit {0}
Printed ([] ∷ bs) = ⊥
Printed ((r ∷ rs) ∷ bs) = AllClean (r ∷ rs) × AllFilled (r ∷ rs) × Printed bs

-- The place behind a row and its end; the place behind rows.
unfoldable pub behind : ℕ → List ℕ → ℕ
behind at r = suc (at + length r)

unfoldable pub behind_all : ℕ → List (List ℕ) → ℕ
unfolding behind
behind_all at [] = at
behind_all at (r ∷ rs) = behind_all (behind at r) rs

-- The lines of rows, from a line's number and a place on.
unfoldable pub row_lines : ℕ → ℕ → List (List ℕ) → List Line
unfolding behind
row_lines n at [] = []
row_lines n at (r ∷ rs) = record { number = n; text = placed at r } ∷ row_lines (suc n) (behind at r) rs

-- The last line of the file is empty.
unfoldable pub file_lines : ℕ → ℕ → List (List ℕ) → List Line
unfolding behind
file_lines n at [] = record { number = n; text = [] } ∷ []
file_lines n at (r ∷ rs) = record { number = n; text = placed at r } ∷ file_lines (suc n) (behind at r) rs

unfoldable pub blocks_at : ℕ → ℕ → List (List (List ℕ)) → List Block
unfolding row_lines behind behind_all
blocks_at n at [] = []
blocks_at n at ([] ∷ bs) = blocks_at n at bs
blocks_at n at ((r ∷ rs) ∷ bs) =
    record { first = record { number = n; text = placed at r }; others = row_lines (suc n) (behind at r) rs }
    ∷ blocks_at (suc (n + length (r ∷ rs))) (suc (behind_all at (r ∷ rs))) bs

raws : ℕ → List (List ℕ) → List (List Byte)
raws at [] = [] ∷ []
raws at (r ∷ rs) = placed at r ∷ raws (behind at r) rs

cuts_rows : (at : ℕ) (rs : List (List ℕ)) → AllClean rs → Cuts (placed at (flat_map end_line rs)) (raws at rs)
unfolding flat_map end_line raws placed AllClean Inside behind ending provided◌then◌else◌
cuts_rows at [] c = last_line tt
cuts_rows at (r ∷ rs) c =
    let e : placed at ((r ++ (10 ∷ [])) ++ flat_map end_line rs)
    ≡ placed at r ++ (record { place = at + length r; value = 10 } ∷ placed (suc (at + length r)) (flat_map end_line rs)) =
    rw append_assoc (placed_append at r (10 ∷ flat_map end_line rs)) in
    ends_lf (record { place = at + length r; value = 10 }) (c.0.inside at) refl (cuts_rows (suc (at + length r)) rs c.1) e

trims_row : (text : List Byte) → Solid text → Trims text text
unfolding All
trims_row text s = record { front = []; back = []; written = sym (append-nil text); blanks_before = tt; blanks_behind = tt; solid = s }

counts_rows : (n at : ℕ) (rs : List (List ℕ)) → AllClean rs → Counts n (raws at rs) (file_lines n at rs)
unfolding raws file_lines AllClean Solid
counts_rows n at [] c = a_line (trims_row [] tt) no_line
counts_rows n at (r ∷ rs) c = a_line (trims_row (placed at r) (c.0.solid at)) (counts_rows (suc n) (behind at r) rs c.1)

pub rows_written : (rs : List (List ℕ)) → AllClean rs → WrittenLines (placed 0 (flat_map end_line rs)) (file_lines 1 0 rs)
rows_written rs c = record { raws = raws 0 rs; cuts = cuts_rows 0 rs c; counts = counts_rows 1 0 rs c }

pub rows_lines : (rs : List (List ℕ)) → AllClean rs → lines (placed 0 (flat_map end_line rs)) ≡ file_lines 1 0 rs
rows_lines rs c = lines_complete (placed 0 (flat_map end_line rs)) (file_lines 1 0 rs) (rows_written rs c)

lines_append : (n at : ℕ) (a b : List (List ℕ)) → file_lines n at (a ++ b) ≡ row_lines n at a ++ file_lines (n + length a) (behind_all at a) b
unfolding file_lines row_lines behind_all
lines_append n at [] b = let e : n + 0 ≡ n = omega arith in rw e
lines_append n at (r ∷ a) b = let e : suc n + length a ≡ n + suc (length a) = omega arith in rw (lines_append (suc n) (behind at r) a b, e)

row_filled : (n at : ℕ) (r : List ℕ) → Filled r → is_blank_line (record { number = n; text = placed at r }) ≡ false
unfolding is_blank_line is_empty placed
row_filled n at [] f = elim f [ ]
row_filled n at (b ∷ r) filled = refl

not_blank_lem : (n at : ℕ) (rs : List (List ℕ)) → AllFilled rs → NotBlank (row_lines n at rs)
unfolding row_lines NotBlank AllFilled
not_blank_lem n at [] f = tt
not_blank_lem n at (r ∷ rs) f = (row_filled n at r f.0, not_blank_lem (suc n) (behind at r) rs f.1)

blank_first : (n at : ℕ) (bs : List (List (List ℕ))) → BlankOrEnd (file_lines n at (further_rows bs))
unfolding file_lines further_rows BlankOrEnd is_blank_line is_empty placed
blank_first n at [] = refl
blank_first n at (b ∷ bs) = refl

one_block : (n at : ℕ) (r : List ℕ) (rs : List (List ℕ)) (bs : List (List (List ℕ))) → AllFilled (r ∷ rs)
    → WrittenBlocks (file_lines (n + length (r ∷ rs)) (behind_all at (r ∷ rs)) (further_rows bs))
    (blocks_at (suc (n + length (r ∷ rs))) (suc (behind_all at (r ∷ rs))) bs)
    → WrittenBlocks (file_lines n at ((r ∷ rs) ++ further_rows bs)) (blocks_at n at ((r ∷ rs) ∷ bs))
unfolding file_lines blocks_at AllFilled behind_all
one_block n at r rs bs f w =
    let e : suc n + length rs ≡ n + suc (length rs) = omega arith in
    let z : file_lines (suc n) (behind at r) (rs ++ further_rows bs)
    ≡ row_lines (suc n) (behind at r) rs ++ file_lines (n + suc (length rs)) (behind_all (behind at r) rs) (further_rows bs) =
    lines_append (suc n) (behind at r) rs (further_rows bs) ∙ rw e in
    a_block (row_filled n at r f.0) (not_blank_lem (suc n) (behind at r) rs f.1) (blank_first (n + suc (length rs)) (behind_all (behind at r) rs) bs) z w

further_blocks : (n at : ℕ) (bs : List (List (List ℕ))) → Printed bs → WrittenBlocks (file_lines n at (further_rows bs)) (blocks_at (suc n) (suc at) bs)
unfolding file_lines further_rows blocks_at Printed is_blank_line is_empty placed behind
further_blocks n at [] p = a_blank refl no_block
further_blocks n at ([] ∷ bs) p = absurd p
further_blocks n at ((r ∷ rs) ∷ bs) p =
    let e : suc (at + 0) ≡ suc at = omega arith in
    let w = one_block (suc n) (suc at) r rs bs p.1 (further_blocks (suc n + length (r ∷ rs)) (behind_all (suc at) (r ∷ rs)) bs p.2) in
    let v : WrittenBlocks (file_lines (suc n) (suc (at + 0)) ((r ∷ rs) ++ further_rows bs)) (blocks_at (suc n) (suc at) ((r ∷ rs) ∷ bs)) =
    subst (λ x. WrittenBlocks (file_lines (suc n) x ((r ∷ rs) ++ further_rows bs)) (blocks_at (suc n) (suc at) ((r ∷ rs) ∷ bs))) (sym e) w in
    a_blank refl v

pub copy_written : (bs : List (List (List ℕ))) → Printed bs → WrittenBlocks (file_lines 1 0 (copy_rows bs)) (blocks_at 1 0 bs)
unfolding file_lines copy_rows blocks_at Printed is_blank_line is_empty
copy_written [] p = a_blank refl no_block
copy_written ([] ∷ bs) p = absurd p
copy_written ((r ∷ rs) ∷ bs) p = one_block 1 0 r rs bs p.1 (further_blocks (1 + length (r ∷ rs)) (behind_all 0 (r ∷ rs)) bs p.2)

rows_clean : (bs : List (List (List ℕ))) → Printed bs → AllClean (further_rows bs)
unfolding further_rows Printed AllClean Inside Solid placed
rows_clean [] p = tt
rows_clean ([] ∷ bs) p = absurd p
rows_clean ((r ∷ rs) ∷ bs) p = (record { inside = λ at. tt; solid = λ at. tt }, clean_append (r ∷ rs) (further_rows bs) p.0 (rows_clean bs p.2))

pub copy_clean : (bs : List (List (List ℕ))) → Printed bs → AllClean (copy_rows bs)
unfolding copy_rows Printed AllClean
copy_clean [] p = tt
copy_clean ([] ∷ bs) p = absurd p
copy_clean ((r ∷ rs) ∷ bs) p = clean_append (r ∷ rs) (further_rows bs) p.0 (rows_clean bs p.2)

-- The blocks of the copy are its blocks of rows, each line where it stands.
pub copy_blocks : (bs : List (List (List ℕ))) → Printed bs → blocks_of (copy_bytes bs) ≡ blocks_at 1 0 bs
unfolding blocks_of copy_bytes
copy_blocks bs p = ap (λ ls. blocks ls) (rows_lines (copy_rows bs) (copy_clean bs p)) ∙ blocks_complete (copy_written bs p)
