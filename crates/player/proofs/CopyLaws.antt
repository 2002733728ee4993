-- Words of a table copied behind themselves: one law for each way through the loop, and what a copy of stored words is.
use Rattle.std.proofs.Common.{◌≡◌, ℕ, suc, ◌+◌, ◌-◌, ◌*◌, ◌<◌, ◌≤◌, min, leb, List, [], ◌∷◌, map, length, get_or, take, drop, set, sym, refl, ◌∙◌, subst, arith}
use Rattle.std.proofs.Common.{drop-cons, leb-false, leb-true, ap, length-drop, length-take, length-take-le, take_all, take-append-drop}
use Rattle.std.proofs.lemmas.List.{take-take}
use lib.Seq.{sets, paste, sets-eq, length-sets, drop-set-add, take-set-le}
use Rattle.std.specs.List.{copy_within}
use Rattle.songcode.specs.Answer.Tables.{measure_word}
use Rattle.songcode.specs.Description.Performance.{total}
use Rattle.songcode.proofs.ListLaws.{by_cases}
use Rattle.songcode.proofs.MemoryLaws.{sets_append, sets_out, sets_there}
use Rattle.player.specs.Windows.{heads}
use Rattle.player.specs.Again.{copy_of, same, later}

-- Words before the place of a store are as they were.
untouched_before : (t : List ℕ) (j k i v : ℕ) → k ≤ i → take k (drop j (set t (j + i) v)) ≡ take k (drop j t)
untouched_before t j k i v h = rw (drop-set-add j t i v) (take-set-le k (drop j t) i v h)

untouched : (t : List ℕ) (j k p v : ℕ) → j + k ≤ p → take k (drop j (set t p v)) ≡ take k (drop j t)
untouched t j k p v h =
    let e : j + (p - j) ≡ p = omega arith in
    subst (λ (z : ℕ). take k (drop j (set t z v)) ≡ take k (drop j t)) e (untouched_before t j k (p - j) v (omega arith))

-- What is still to be copied: k words, from a on, to b.
unfoldable pub copying : (ℕ → ℕ) → List ℕ → ℕ → ℕ → ℕ → List ℕ
copying f t a b k = sets t b (map f (take k (drop a t)))

pub copy_start : (f : ℕ → ℕ) (t : List ℕ) (from to : ℕ) → copying f t (from + 0) (to + 0) (to - from - 0) ≡ copy_of f t from to
unfolding copying copy_of
copy_start f t from to =
    let a : from + 0 ≡ from = omega arith in
    let b : to + 0 ≡ to = omega arith in
    let k : to - from - 0 ≡ to - from = omega arith in
    rw (a, b, k)

copy_one : (f : ℕ → ℕ) (t : List ℕ) (a b k : ℕ) → a < length t → a + suc k ≤ b
    → copying f t a b (suc k) ≡ copying f (set t b (f (get_or t a 0))) (suc a) (suc b) k
unfolding copying
copy_one f t a b k h l = rw (drop-cons t a 0 h, untouched t (suc a) k b (f (get_or t a 0)) (omega arith))

pub copy_next : (f : ℕ → ℕ) (t goal : List ℕ) (from to i v : ℕ) → from ≤ to → i < to - from → to + i < length t → v ≡ f (get_or t (from + i) 0)
    → copying f t (from + i) (to + i) (to - from - i) ≡ goal → copying f (set t (to + i) v) (from + (i + 1)) (to + (i + 1)) (to - from - (i + 1)) ≡ goal
copy_next f t goal from to i v o h l e g =
    let k : to - from - i ≡ suc (to - from - (i + 1)) = omega arith in
    let a : from + (i + 1) ≡ suc (from + i) = omega arith in
    let b : to + (i + 1) ≡ suc (to + i) = omega arith in
    let g' : copying f t (from + i) (to + i) (suc (to - from - (i + 1))) ≡ goal = rw k at g in
    rw (a, b, e) (sym (copy_one f t (from + i) (to + i) (to - from - (i + 1)) (omega arith) (omega arith)) ∙ g')

pub copy_over : (f : ℕ → ℕ) (t goal : List ℕ) (from to n i : ℕ) → n ≡ min (to - from) (length t - to) → n ≤ i
    → copying f t (from + i) (to + i) (to - from - i) ≡ goal → t ≡ goal
unfolding copying
copy_over f t goal from to n i e h g =
    by_cases (leb (to - from) i)
    (λ q. let l = leb-true (to - from) i q in
    let k : to - from - i ≡ 0 = omega arith in rw k at g)
    (λ q. let l = leb-false (to - from) i q in sym (sets_out t (map f (take (to - from - i) (drop (from + i) t))) (to + i) (omega arith)) ∙ g)

-- Copied unchanged, by the library; what has no place is not stored.
pub map_same : (xs : List ℕ) → map same xs ≡ xs
map_same [] = refl
map_same (x ∷ xs) = rw (map_same xs)

sets_fit : (t xs : List ℕ) (b n : ℕ) → length t ≤ b + n → sets t b (take n xs) ≡ sets t b xs
sets_fit t xs b n h =
    let l = length-sets t b (take n xs) in
    let e : sets t b xs ≡ sets (sets t b (take n xs)) (b + length (take n xs)) (drop n xs) =
    rw (take-append-drop n xs) at (sets_append t b (take n xs) (drop n xs)) in
    by_cases (leb n (length xs))
    (λ q. let m = length-take-le n xs (leb-true n (length xs) q) in
    sym (sets_out (sets t b (take n xs)) (drop n xs) (b + length (take n xs)) (omega arith)) ∙ sym e)
    (λ q. let m = leb-false n (length xs) q in rw (take_all n xs (omega arith)))

take_least : (t : List ℕ) (k m n : ℕ) → n ≡ min k m → take m (take k t) ≡ take n t
take_least t k m n e =
    by_cases (leb k m)
    (λ q. let h = leb-true k m q in
    let s : n ≡ k = omega arith in
    rw s (take_all m (take k t) (simp length-take (omega arith))))
    (λ q. let h = leb-false k m q in
    let s : n ≡ m = omega arith in
    rw s (take-take m k t (omega arith)))

pub copied_within : (t t' : List ℕ) (from to n : ℕ) → from ≤ to → to < length t → n ≡ min (to - from) (length t - to)
    → t' ≡ copy_within t from (from + n) to → t' ≡ copy_of same t from to
unfolding copy_of
copied_within t t' from to n o h e f =
    let k : from + n - from ≡ n = omega arith in
    let size : length (take n (drop from t)) ≡ n = length-take-le n (drop from t) (simp length-drop (omega arith)) in
    let whole = take (to - from) (drop from t) in
    let f' : t' ≡ paste t to (drop from t) n = rw k at f in
    let s : sets t to (take n (drop from t)) ≡ paste t to (drop from t) n = rw size at (sets-eq (take n (drop from t)) t to (omega arith)) in
    f' ∙ sym s ∙ ap (sets t to) (sym (take_least (drop from t) (to - from) (length t - to) n e))
    ∙ sets_fit t whole to (length t - to) (omega arith) ∙ ap (sets t to) (sym (map_same whole))

pub copied_none : (t : List ℕ) (from to : ℕ) → length t ≤ to → t ≡ copy_of same t from to
unfolding copy_of
copied_none t from to h = sym (sets_out t (map same (take (to - from) (drop from t))) to h)

-- A copy of words that were stored is the same words stored again.
pub sets_again : (f : ℕ → ℕ) (t xs : List ℕ) (from to : ℕ) → to ≡ from + length xs → copy_of f (sets t from xs) from to ≡ sets (sets t from xs) to (map f xs)
unfolding copy_of
sets_again f t xs from to e =
    let n : to - from ≡ length xs = omega arith in
    let l = length-sets t from xs in
    by_cases (leb (from + length xs) (length t))
    (λ q. let h = leb-true (from + length xs) (length t) q in rw (n, sets_there from xs t h))
    (λ q.
    let h = leb-false (from + length xs) (length t) q in
    sets_out (sets t from xs) (map f (take (to - from) (drop from (sets t from xs)))) to (omega arith)
    ∙ sym (sets_out (sets t from xs) (map f xs) to (omega arith)))

-- The words of measures that begin d beats later.
word_later : (f n d : ℕ) → f + n + d ≤ 2097120 → later (d * 2048) (measure_word f n) ≡ measure_word (f + d) n
unfolding measure_word
word_later f n d h = omega arith

pub heads_later : (d f : ℕ) (row : List (List ℕ)) → f + total row + d ≤ 2097120 → map (later (d * 2048)) (heads f row) ≡ heads (f + d) row
unfolding heads total
heads_later d f [] h = refl
heads_later d f (x ∷ xs) h =
    let e : f + length x + d ≡ f + d + length x = omega arith in
    let i : map (later (d * 2048)) (heads (f + length x) xs) ≡ heads (f + d + length x) xs = rw e at (heads_later d (f + length x) xs (omega arith)) in
    rw (word_later f (length x) d (omega arith), i)
