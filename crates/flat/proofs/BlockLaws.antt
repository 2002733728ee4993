-- Blocks one behind the other on a sheet are the bytes of a copy.
use Prim.Native.Nat.{ℕ, zero, suc, ◌≤◌}
use mathlib.Core.Path.{◌≡◌, refl, sym, ap, ◌∙◌}
use mathlib.Core.List.{List, [], ◌∷◌, ◌++◌, map, append_assoc, flat_map}
use mathlib.Core.Bool.{Bool, true, false, not}
use native.Mathlib.Omega.{arith}
use lib.Dec.{ltb}
use lib.ListN.{length, length-append}
use borrow.Author.Tests.{ltb-true, not-false}
use Rattle.songcode.specs.Lists.{provided◌then◌else◌, when}
use Rattle.songcode.specs.Bytes.{ascii}
use Rattle.songcode.specs.Answer.Lines.{Line}
use Rattle.songcode.specs.Answer.Answer.{most_bytes}
use Rattle.songcode.specs.Answer.Flat.{text_of, end_line, key_block, empty_block, further_rows, copy_rows, copy_bytes}
use Rattle.songcode.proofs.ListLaws.{by_cases, true_is_not_false, Each, gather_append}
use Rattle.flat.specs.Sheets.{Sheet, put_one, puts}
use Rattle.flat.specs.Taken.{line_bytes}
use Rattle.flat.specs.Blocks.{parting, block_bytes, put_blocks}
use Rattle.flat.proofs.SheetLaws.{puts_append}

pub blocks_append : (a b : List (List (List ℕ))) (x : Sheet) → put_blocks (a ++ b) x ≡ put_blocks b (put_blocks a x)
unfolding put_blocks
blocks_append [] b x = refl
blocks_append (r ∷ a) b x = blocks_append a b (puts (block_bytes x.at r) x)

-- A sheet with a byte keeps one, and a byte more is one.
one_at : (b : ℕ) (x : Sheet) → 1 ≤ (put_one b x).at
unfolding put_one provided◌then◌else◌ most_bytes
one_at b x = by_cases (ltb 65536 x.at) (λ e. let h = ltb-true 65536 x.at e in rw e (omega arith)) (λ e. rw e (omega arith))

kept_at : (bs : List ℕ) (x : Sheet) → 1 ≤ x.at → 1 ≤ (puts bs x).at
unfolding puts
kept_at [] x h = h
kept_at (b ∷ bs) x h = kept_at bs (put_one b x) (one_at b x)

some_at : (bs : List ℕ) (x : Sheet) → 1 ≤ length bs → 1 ≤ (puts bs x).at
unfolding puts
some_at [] x h = absurd (omega arith)
some_at (b ∷ bs) x h = kept_at bs (put_one b x) (one_at b x)

-- "one blank line parts blocks"
parted_by : (n : ℕ) → 1 ≤ n → parting n ≡ 10 ∷ []
unfolding parting
parted_by zero h = absurd (omega arith)
parted_by (suc n) h = refl

pub parted_none : (x : Sheet) (n : ℕ) → n ≡ 0 → puts (parting n) x ≡ x
unfolding parting puts
parted_none x n e = rw e

pub parted_some : (x : Sheet) (n : ℕ) → (n ≡ 0 → ⊥) → puts (parting n) x ≡ puts (10 ∷ []) x
parted_some x n h = ap (λ (z : List ℕ). puts z x) (parted_by n (omega arith))

block_further : (b : List (List ℕ)) (n : ℕ) → 1 ≤ n → block_bytes n b ≡ end_line [] ++ flat_map end_line b
unfolding block_bytes end_line
block_further b n h = rw (parted_by n h)

further_bytes : (b : List (List ℕ)) (bs : List (List (List ℕ)))
    → flat_map end_line (further_rows (b ∷ bs)) ≡ (end_line [] ++ flat_map end_line b) ++ flat_map end_line (further_rows bs)
unfolding further_rows flat_map
further_bytes b bs = ap (λ (z : List ℕ). end_line [] ++ z) (gather_append end_line b (further_rows bs))
    ∙ sym (append_assoc (end_line []) (flat_map end_line b) _)

further : (bs : List (List (List ℕ))) (x : Sheet) → 1 ≤ x.at → put_blocks bs x ≡ puts (flat_map end_line (further_rows bs)) x
unfolding put_blocks further_rows flat_map puts
further [] x h = refl
further (b ∷ bs) x h =
    further bs (puts (block_bytes x.at b) x) (kept_at (block_bytes x.at b) x h)
    ∙ sym (puts_append (block_bytes x.at b) (flat_map end_line (further_rows bs)) x)
    ∙ ap (λ (z : List ℕ). puts (z ++ flat_map end_line (further_rows bs)) x) (block_further b x.at h)
    ∙ ap (λ (z : List ℕ). puts z x) (sym (further_bytes b bs))

-- Every block has a line.
unfoldable pub Lined : List (List (List ℕ)) → Type 0
Lined bs = Each (λ b. 1 ≤ length b) bs

rows_some : (b : List (List ℕ)) → 1 ≤ length b → 1 ≤ length (flat_map end_line b)
unfolding flat_map end_line
rows_some [] h = absurd (omega arith)
rows_some (r ∷ b) h = rw (length-append, length-append) (omega arith)

pub copy_blocks : (bs : List (List (List ℕ))) (c : List ℕ) → Lined bs
    → put_blocks bs (record { copy = c; at = 0 }) ≡ puts (copy_bytes bs) (record { copy = c; at = 0 })
unfolding put_blocks block_bytes parting copy_bytes copy_rows Lined Each
copy_blocks [] c h = refl
copy_blocks (b ∷ bs) c h =
    let x : Sheet = record { copy = c; at = 0 } in
    further bs (puts (flat_map end_line b) x) (some_at (flat_map end_line b) x (rows_some b h.0))
    ∙ sym (puts_append (flat_map end_line b) (flat_map end_line (further_rows bs)) x)
    ∙ ap (λ (z : List ℕ). puts z x) (sym (gather_append end_line b (further_rows bs)))

-- "key lines make one block"
pub keys_block : (ls : List Line) (c : List ℕ)
    → puts (line_bytes ls) (record { copy = c; at = 0 }) ≡ put_blocks (key_block (map text_of ls)) (record { copy = c; at = 0 })
unfolding put_blocks block_bytes parting key_block line_bytes flat_map puts
keys_block [] c = refl
keys_block (l ∷ ls) c = refl

-- "written only if needed"
pub no_empty : (needed : Bool) (x : Sheet) → not needed ≡ true → put_blocks (empty_block needed) x ≡ x
unfolding put_blocks empty_block when
no_empty true x e = true_is_not_false e refl
no_empty false x e = refl

pub some_empty : (needed : Bool) (x y z : Sheet) → not needed ≡ false → y ≡ puts (parting x.at) x → z ≡ puts (36 ∷ 49 ∷ 10 ∷ []) y
    → z ≡ put_blocks (empty_block needed) x
unfolding put_blocks empty_block when block_bytes flat_map end_line ascii
some_empty needed x y z e f g = g ∙ ap (puts (36 ∷ 49 ∷ 10 ∷ [])) f ∙ sym (puts_append (parting x.at) (36 ∷ 49 ∷ 10 ∷ []) x) ∙ rw (not-false needed e) refl
