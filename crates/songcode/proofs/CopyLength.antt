-- Request 1: the length of a section's measures in the copy, from counts alone.
use Prim.Native.Nat.{ℕ, zero, suc, ◌+◌, ◌-◌, ◌*◌, ◌≤◌}
use mathlib.Core.Path.{◌≡◌, refl, ◌∙◌}
use mathlib.Core.List.{List, [], ◌∷◌, ◌++◌, map, flat_map}
use native.Mathlib.Omega.{arith}
use lib.ListN.{length, replicate, length-append}
use Rattle.songcode.specs.Lists.{times}
use Rattle.songcode.specs.Bytes.{ascii}
use Rattle.songcode.specs.Song.{Beat}
use Rattle.songcode.specs.Description.Performance.{total}
use Rattle.songcode.specs.Answer.Flat.{letters_of, parted, spaced, flat_measure, flat_pattern, end_line}
use Rattle.songcode.specs.FlatDemands.{Within}
use Rattle.songcode.specs.Description.WrittenFlat.{lines_length, letters_length, row_length, pattern_length}
use Rattle.songcode.proofs.ListLaws.{times_length}
use Rattle.songcode.proofs.TurnedRows.{total_append}

parted_length : (ws : List (List ℕ)) → length (parted ws) ≡ lines_length ws
unfolding parted lines_length
parted_length [] = refl
parted_length (w ∷ ws) = let h = parted_length ws in rw length-append (omega arith)

lines_more : (a b : List (List ℕ)) → lines_length (a ++ b) ≡ lines_length a + lines_length b
unfolding lines_length
lines_more [] b = omega arith
lines_more (w ∷ a) b = let h = lines_more a b in omega arith

letters_lines : (m : List Beat) → lines_length (map letters_of m) ≡ letters_length m + length m
unfolding lines_length letters_length
letters_lines [] = refl
letters_lines (b ∷ m) = let h = letters_lines m in omega arith

removers_lines : (k : ℕ) → lines_length (replicate k (ascii "=")) ≡ k + k
unfolding lines_length ascii
removers_lines zero = refl
removers_lines (suc k) = let h = removers_lines k in omega arith

measure_length : (n : ℕ) (b : Beat) (m : List Beat) → length (b ∷ m) ≤ n
    → length (end_line (flat_measure n (b ∷ m))) ≡ letters_length (b ∷ m) + (n - length (b ∷ m)) + n
unfolding end_line flat_measure spaced letters_length
measure_length n b m h =
    let k = n - length (b ∷ m) in
    let a = length-append (letters_of b ++ parted (map letters_of m ++ replicate k (ascii "="))) (10 ∷ []) in
    let c = length-append (letters_of b) (parted (map letters_of m ++ replicate k (ascii "="))) in
    let p = parted_length (map letters_of m ++ replicate k (ascii "=")) in
    let q = lines_more (map letters_of m) (replicate k (ascii "=")) in
    let r = letters_lines m in
    let s = removers_lines k in
    a ∙ rw (c, p, q, r, s) (omega arith)

-- Measure by measure, then by their counts.
measures_length : ℕ → List (List Beat) → ℕ
measures_length n [] = 0
measures_length n (m ∷ row) = letters_length m + (n - length m) + n + measures_length n row

each_length : (n : ℕ) (row : List (List Beat)) → Within n row → length (flat_map end_line (map (flat_measure n) row)) ≡ measures_length n row
unfolding flat_map measures_length Within
each_length n [] w = refl
each_length n ([] ∷ row) w = absurd (let h = w.0 in omega arith)
each_length n ((b ∷ m) ∷ row) w =
    rw (length-append (end_line (flat_measure n (b ∷ m))) (flat_map end_line (map (flat_measure n) row)), measure_length n b m w.1, each_length n row w.2)

total_most : (n : ℕ) (row : List (List Beat)) → Within n row → total row ≤ n * length row
unfolding total Within
total_most n [] w = omega arith
total_most n (m ∷ row) w =
    let h = total_most n row w.2 in
    let k = w.1 in
    omega arith

by_counts : (n : ℕ) (row : List (List Beat)) → Within n row → measures_length n row ≡ row_length row + (n * length row - total row) + n * length row
unfolding measures_length row_length total Within
by_counts n [] w = omega arith
by_counts n (m ∷ row) w =
    let h = by_counts n row w.2 in
    let k = total_most n row w.2 in
    let l = w.1 in
    omega arith

pub pattern_length_lem : (n : ℕ) (row : List (List Beat)) → Within n row → length (flat_map end_line (flat_pattern n row)) ≡ pattern_length n row
unfolding flat_pattern pattern_length flat_map end_line ascii
pattern_length_lem n [] w = refl
pattern_length_lem n (m ∷ row) w = each_length n (m ∷ row) w ∙ by_counts n (m ∷ row) w

-- Loops and repeats multiply.
letters_behind : (a b : List (List Beat)) → row_length (a ++ b) ≡ row_length a + row_length b
unfolding row_length
letters_behind [] b = omega arith
letters_behind (m ∷ a) b = let h = letters_behind a b in omega arith

pub length_repeated : (k : ℕ) (row : List (List Beat))
    → (row_length (times k row) ≡ k * row_length row) × (total (times k row) ≡ k * total row) × (length (times k row) ≡ k * length row)
unfolding times row_length total
length_repeated k row = (letters k, beats k, times_length k row)
  where
    letters : (k : ℕ) → row_length (times k row) ≡ k * row_length row
    letters zero = omega arith
    letters (suc k) = let h = letters k in rw (letters_behind row (times k row), h) (omega arith)

    beats : (k : ℕ) → total (times k row) ≡ k * total row
    beats zero = omega arith
    beats (suc k) = let h = beats k in rw (total_append row (times k row), h) (omega arith)
