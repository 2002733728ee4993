-- Numbers: the same wherever their digits stand, and in their range.
use Prim.Native.Nat.{ℕ, suc, ◌+◌, ◌*◌, ◌-◌, ◌≤◌}
use Prim.Native.Char.{code}
use mathlib.Core.Path.{◌≡◌, refl}
use mathlib.Core.List.{List, [], ◌∷◌}
use mathlib.Core.Bool.{◌&&◌}
use mathlib.Core.Option.{none, some}
use native.Mathlib.Omega.{arith}
use borrow.Author.Tests.{leb-true}
use lib.Dec.{leb}
use lib.ListN.{length, drop}
use Rattle.songcode.specs.Lists.{provided◌then◌else◌}
use Rattle.songcode.specs.Bytes.{Byte, placed, is_byte}
use Rattle.songcode.specs.Answer.Numbers.{is_decimal, value_from, number_in, count_in, repeat_in}
use Rattle.songcode.specs.Answer.Sections.{behind_first}
use Rattle.songcode.specs.Answer.Lyrics.{count_behind}
use Rattle.songcode.proofs.ListLaws.{both_pass, by_cases}
use Rattle.settings.proofs.PlaceLaws.{Placeless, anywhere}
use Rattle.tokens.proofs.WordLaws.{decimal_placed}

value_anywhere : (v a b : ℕ) (w : List ℕ) → value_from v (placed a w) ≡ value_from v (placed b w)
unfolding value_from placed
value_anywhere v a b [] = refl
value_anywhere v a b (x ∷ w) = value_anywhere (v * 10 + (x - code "0")) (suc a) (suc b) w

pub number_in_placeless : (low high : ℕ) → Placeless (number_in low high)
unfolding number_in
number_in_placeless low high a w = rw (decimal_placed a 0 w, value_anywhere 0 a 0 w)

pub count_in_placeless : Placeless count_in
unfolding count_in
count_in_placeless a w = number_in_placeless 1 9999 a w

pub repeat_in_placeless : Placeless repeat_in
unfolding repeat_in
repeat_in_placeless a w = number_in_placeless 2 9999 a w

-- A number that is read is in its range.
pub number_in_range : (low high : ℕ) (bs : List Byte) {n : ℕ} → number_in low high bs ≡ some n → (low ≤ n) × (n ≤ high)
unfolding number_in provided◌then◌else◌
number_in_range low high bs {n} h =
    by_cases
    (is_decimal bs && leb low (value_from 0 bs) && leb (value_from 0 bs) high)
    (λ t.
    let p = both_pass (is_decimal bs && leb low (value_from 0 bs)) (leb (value_from 0 bs) high) t in
    let q = both_pass (is_decimal bs) (leb low (value_from 0 bs)) p.0 in
    let k : value_from 0 bs ≡ n = some_same (rw t at h) in
    let x = leb-true low (value_from 0 bs) q.1 in
    let y = leb-true (value_from 0 bs) high p.1 in
    (omega arith, omega arith))
    (λ t. let z : none ≡ some n = rw t at h in none_some z)
  where
    some_same : {x y : ℕ} → some x ≡ some y → x ≡ y
    some_same e = cc

    none_some : {X : Type 0} → none ≡ some n → X
    none_some e = let z : ◌≡◌ {A = ℕ} 0 1 = cc in absurd (omega arith)

pub count_in_range : (bs : List Byte) {n : ℕ} → count_in bs ≡ some n → (1 ≤ n) × (n ≤ 9999)
unfolding count_in
count_in_range bs h = number_in_range 1 9999 bs h

-- The number behind a first byte.
pub count_behind_first : (a : ℕ) (w : List ℕ) → count_in (behind_first (placed a w)) ≡ count_in (placed 0 (drop 1 w))
unfolding behind_first placed
count_behind_first a [] = refl
count_behind_first a (x ∷ w) = count_in_placeless (suc a) w

pub count_nothing : (a : ℕ) (w : List ℕ) → length w ≡ 0 → count_in (behind_first (placed a w)) ≡ none
unfolding behind_first placed count_in number_in is_decimal provided◌then◌else◌
count_nothing a [] h = refl
count_nothing a (x ∷ w) h = let z : ⊥ = omega arith in absurd z

pub count_behind_placeless : Placeless count_behind
unfolding count_behind placed is_byte
count_behind_placeless a [] = refl
count_behind_placeless a (x ∷ w) = rw (anywhere count_in count_in_placeless (suc a) 1 w)
