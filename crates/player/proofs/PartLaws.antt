-- A part of a section: windows of windows and of rows behind one another, and what a caller that goes on from part to part knows of each.
use Rattle.std.proofs.Common.{◌≡◌, ℕ, zero, suc, ◌+◌, ◌-◌, ◌<◌, ◌≤◌, min, leb, List, [], ◌∷◌, ◌++◌, length, get_or, take, drop, sym, refl, ap, ◌∙◌}
use Rattle.std.proofs.Common.{append_assoc, arith, length-drop, drop_of_length-le, length-take, take_all, take-take, drop-drop, take-add, drop_at, leb-false}
use Rattle.std.proofs.Common.{leb-true}
use lib.Seq.{take-nil, take-append_seam, drop-nil}
use Rattle.songcode.specs.Answer.Playing.{keep}
use Rattle.songcode.specs.Description.Performance.{total}
use Rattle.songcode.specs.Answer.Tables.{measure_word}
use Rattle.songcode.specs.Lists.{times}
use Rattle.songcode.specs.EitherOrder.{Filled}
use Rattle.songcode.proofs.ListLaws.{by_cases, drop_take}
use Rattle.songcode.proofs.RowLaws.{filled_append}
use Rattle.songcode.proofs.CutFront.{keep_some, filled_keep}
use Rattle.songcode.proofs.TurnedRows.{total_append}
use Rattle.cuts.specs.declared.Cut.{Cut}
use Rattle.player.specs.Windows.{window, first_beat, last_beat, kept_of, whole_of, section_row, flat, heads}
use Rattle.player.proofs.ShortLaws.{Short, short_append, short_times, total_short}
use Rattle.player.proofs.WindowLaws.{total_window, window_none, window_enough, window_filled}
use Rattle.player.proofs.SectionMeaning.{kept_total}

minus_minus : (s l t : ℕ) → s - l - t ≡ s - (l + t)
minus_minus s l t = omega arith

left_behind : (n s l t : ℕ) → n - (l - s) - (t - (s - l)) ≡ n - (l + t - s)
left_behind n s l t =
    by_cases (leb l s)
    (λ q. let h = leb-true l s q in
    let a : l - s ≡ 0 = omega arith in
    let b : t - (s - l) ≡ l + t - s = omega arith in rw (a, b) (zero_less n (l + t - s)))
    (λ q. let h = leb-false l s q in
    let a : s - l ≡ 0 = omega arith in
    let b : l + t - s ≡ l - s + (t - 0) = omega arith in rw (a, b)
    (minus_minus n (l - s) (t - 0)))
  where
    zero_less : (n t : ℕ) → n - 0 - t ≡ n - t
    zero_less n t = omega arith

-- Of a measure of l beats y are kept when s are passed over and n written; then t of these are passed over and m written.
skips : (s t l y n : ℕ) → y ≡ min n (l - s) → 1 ≤ y → l - s ≤ n → s - l + (t - y) ≡ s + t - l
skips s t l y n e h k =
    let a : y ≡ l - s = omega arith in
    let b : s - l ≡ 0 = omega arith in
    rw (a, b) (omega arith)

less : (m n d : ℕ) → min (m - d) (n - d) ≡ min m n - d
less m n d = omega arith

past : (n d t : ℕ) → t ≤ d → n - d - (t - d) ≡ n - t - (d - t)
past n d t h = omega arith

short : (n d t : ℕ) → d ≤ t → n - d - (t - d) ≡ n - t
short n d t h = omega arith

left_of : (m n d t : ℕ) → min (m - (d - t)) (n - d - (t - d)) ≡ min m (n - t) - (d - t)
left_of m n d t =
    by_cases (leb t d)
    (λ q. rw (past n d t (leb-true t d q)) (less m (n - t) (d - t)))
    (λ q. let h = leb-false t d q in
    let a : d - t ≡ 0 = omega arith in rw (a, short n d t (omega arith)) (same m (n - t)))
  where
    same : (m n : ℕ) → min (m - 0) n ≡ min m n - 0
    same m n = omega arith

lefts : (s t l y n m : ℕ) → y ≡ min n (l - s) → l - s ≤ n → min (m - (y - t)) (n - (l - s) - (t - y)) ≡ min m (n - t) - (l - (s + t))
lefts s t l y n m e k =
    let a : y ≡ l - s = omega arith in
    let b : l - (s + t) ≡ l - s - t = omega arith in
    rw (a, b) (left_of m n (l - s) t)

none_after : (m n l s t : ℕ) → n ≤ l - s → min m (n - t) - (l - (s + t)) ≡ 0
none_after m n l s t h = let a : n - t ≤ l - (s + t) = omega arith in capped (n - t) (l - (s + t)) a
  where
    capped : (a b : ℕ) → a ≤ b → min m a - b ≡ 0
    capped a b h = omega arith

module _ {A : Type 0} where
  keep_append : (y : List A) (a b : List (List A)) → keep y (a ++ b) ≡ keep y a ++ b
  unfolding keep
  keep_append [] a b = refl
  keep_append (w ∷ y) a b = refl

  window_eq : (s s' n n' : ℕ) (row : List (List A)) → s ≡ s' → n ≡ n' → window s n row ≡ window s' n' row
  window_eq s s' n n' row e f = rw (e, f)

  both_none : (s s' n n' : ℕ) (row : List (List A)) → n ≡ 0 → n' ≡ 0 → window s n row ≡ window s' n' row
  both_none s s' n n' row e f = rw (e, f, window_none s row, window_none s' row)

  -- A window over two rows is one over each.
  pub window_append : (s n : ℕ) (a b : List (List A)) → window s n (a ++ b) ≡ window s n a ++ window (s - total a) (n - (total a - s)) b
  unfolding window total
  window_append s n [] b = window_eq s (s - 0) n (n - (0 - s)) b (omega arith) (omega arith)
  window_append s n (x ∷ a) b =
      let h = window_append (s - length x) (n - (length x - s)) a b in
      let e = window_eq (s - length x - total a) (s - (length x + total a)) (n - (length x - s) - (total a - (s - length x))) (n - (length x + total a - s)) b
      (minus_minus s (length x) (total a)) (left_behind n s (length x) (total a)) in
      rw (h, e) (keep_append (take n (drop s x)) (window (s - length x) (n - (length x - s)) a)
      (window (s - (length x + total a)) (n - (length x + total a - s)) b))

  take_min : (m n : ℕ) (l : List A) → take m (take n l) ≡ take (min m n) l
  take_min m n l =
      by_cases (leb m n)
      (λ q. let h = leb-true m n q in
      let e : min m n ≡ m = omega arith in rw e (take-take m n l h))
      (λ q. let h = leb-false m n q in
      let e : min m n ≡ n = omega arith in
      let k = length-take n l in rw e (take_all m (take n l) (omega arith)))

  taken_part : (s n t m : ℕ) (x : List A) → take m (drop t (take n (drop s x))) ≡ take (min m (n - t)) (drop (s + t) x)
  taken_part s n t m x = rw (drop_take t n (drop s x), drop-drop t s x) (take_min m (n - t) (drop (s + t) x))

  -- Behind a measure of l beats of which y were kept.
  rest_kept : (s n t m l y : ℕ) (xs : List (List A)) → y ≡ min n (l - s)
      → window (s - l + (t - y)) (min (m - (y - t)) (n - (l - s) - (t - y))) xs ≡ window (s + t - l) (min m (n - t) - (l - (s + t))) xs
  rest_kept s n t m l y xs e =
      by_cases (leb n (l - s))
      (λ q. let k = leb-true n (l - s) q in both_none _ _ _ _ xs (nothing_left (m - (y - t)) (l - s) (t - y) k) (none_after m n l s t k))
      (λ q. let k = leb-false n (l - s) q in window_eq _ _ _ _ xs (skips_on (omega arith)) (lefts s t l y n m e (omega arith)))
    where
      nothing_left : (a b c : ℕ) → n ≤ b → min a (n - b - c) ≡ 0
      nothing_left a b c h = omega arith

      skips_on : l - s ≤ n → s - l + (t - y) ≡ s + t - l
      skips_on k =
          by_cases (leb l s)
          (λ q. let h = leb-true l s q in
          let a : y ≡ 0 = omega arith in rw a (omega arith))
          (λ q. let h = leb-false l s q in
          let a : y ≡ l - s = omega arith in
          let b : s - l ≡ 0 = omega arith in rw (a, b) (omega arith))

  -- A window of a window is one window.
  pub window_window : (t m s n : ℕ) (row : List (List A)) → window t m (window s n row) ≡ window (s + t) (min m (n - t)) row
  unfolding window keep
  window_window t m s n [] = refl
  window_window t m s n (x ∷ xs) = go (λ a b. window_window a b (s - length x) (n - (length x - s)) xs) (take n (drop s x)) refl
    where
      len : length (take n (drop s x)) ≡ min n (length x - s)
      len = length-take n (drop s x) ∙ ap (min n) (length-drop s x)

      go : ((a b : ℕ) → window a b (window (s - length x) (n - (length x - s)) xs) ≡ window (s - length x + a) (min b (n - (length x - s) - a)) xs)
          → (y : List A) → take n (drop s x) ≡ y
          → window t m (keep y (window (s - length x) (n - (length x - s)) xs))
          ≡ keep (take (min m (n - t)) (drop (s + t) x)) (window (s + t - length x) (min m (n - t) - (length x - (s + t))) xs)
      go more [] e =
          let z : 0 ≡ min n (length x - s) = ap length (sym e) ∙ len in
          let p : take (min m (n - t)) (drop (s + t) x) ≡ [] = sym (taken_part s n t m x) ∙ (rw (e, drop-nil {A = A} t, take-nil {A = A} m)) in
          let a : t - 0 ≡ t = omega arith in
          let b : m - (0 - t) ≡ m = omega arith in
          let r = rest_kept s n t m (length x) 0 xs z in
          rw p (more t m ∙ rw (a, b) at r)
      go more (w ∷ y) e =
          let z : length (w ∷ y) ≡ min n (length x - s) = ap length (sym e) ∙ len in
          let p : take m (drop t (w ∷ y)) ≡ take (min m (n - t)) (drop (s + t) x) = rw (← e) (taken_part s n t m x) in
          rw (p, more (t - length (w ∷ y)) (m - (length (w ∷ y) - t)), rest_kept s n t m (length x) (length (w ∷ y)) xs z)

  -- A window over all beats that are left, or over more.
  window_capped : (s n : ℕ) (row : List (List A)) → window s (min n (total row - s)) row ≡ window s n row
  window_capped s n row =
      by_cases (leb (total row - s) n)
      (λ q. let h = leb-true (total row - s) n q in window_enough s (min n (total row - s)) n row (omega arith) h)
      (λ q. let h = leb-false (total row - s) n q in
      let e : min n (total row - s) ≡ n = omega arith in rw e)

  window_whole : (s n : ℕ) (row : List (List A)) → window s n (whole_of row) ≡ window s n row
  unfolding whole_of
  window_whole s n row = window_window s n 0 (total row) row ∙ let e : 0 + s ≡ s = omega arith in rw e (window_capped s n row)

  whole_total : (row : List (List A)) → total (whole_of row) ≡ total row
  unfolding whole_of
  whole_total row = total_window 0 (total row) row ∙ omega arith

  -- A part of a section: of its lead-in, of the pattern less its cuts, of its tail.
  pub section_part : (s n : ℕ) (f b : Cut) (r : ℕ) (lead row tail : List (List A)) (p l t m : ℕ)
      → p ≡ first_beat f (times r row) → l ≡ last_beat b (times r row) - first_beat f (times r row) → t ≡ s - total lead → m ≡ n - (total lead - s)
      → window s n (section_row f b r lead row tail) ≡ (window s n lead ++ window (p + t) (min m (l - t)) (times r row)) ++ window (t - l) (m - (l - t)) tail
  unfolding section_row
  section_part s n f b r lead row tail p l t m e k i j =
      let kept = kept_of f b (times r row) in
      let a = window_append s n (whole_of lead) (kept ++ whole_of tail) in
      let c = window_append t m kept (whole_of tail) in
      let kt : total kept ≡ l = kept_total f b (times r row) ∙ sym k in
      let kw : window t m kept ≡ window (p + t) (min m (l - t)) (times r row) = kept_part t m (times r row) e k in
      rw (a, window_whole s n lead, whole_total lead, ← i, ← j, c, kt, window_whole (t - l) (m - (l - t)) tail, kw)
      (sym (append_assoc (window s n lead) (window (p + t) (min m (l - t)) (times r row)) (window (t - l) (m - (l - t)) tail)))
    where
      kept_part : (t m : ℕ) (all : List (List A)) → p ≡ first_beat f all → l ≡ last_beat b all - first_beat f all
          → window t m (kept_of f b all) ≡ window (p + t) (min m (l - t)) all
      kept_part t m all e k = rw (e, k) (window_window t m (first_beat f all) (last_beat b all - first_beat f all) all)

  -- Where both cuts take nothing a section is its three texts behind one another.
  whole_append : (s n : ℕ) (a b c : List (List A)) → ((s n : ℕ) → window s n b ≡ window s n c) → window s n (whole_of a ++ b) ≡ window s n (a ++ c)
  whole_append s n a b c same =
      rw (window_append s n (whole_of a) b, window_whole s n a, whole_total a, same (s - total a) (n - (total a - s))) (sym (window_append s n a c))

  kept_whole : (f b : Cut) (row : List (List A)) → f.measures.0 ≡ 0 → f.beats.0 ≡ 0 → b.measures.0 ≡ 0 → b.beats.0 ≡ 0 → kept_of f b row ≡ whole_of row
  unfolding kept_of first_beat last_beat whole_of total
  kept_whole f b row e k i j =
      let t : total (take (length row - 0) row) ≡ total row = let z : length row - 0 ≡ length row = omega arith in rw z
      (ap total (take_all (length row) row (omega arith))) in
      let n : total row - 0 - (0 + 0) ≡ total row = omega arith in
      rw (e, k, i, j, t, n)

  pub uncut_window : (s n : ℕ) (f b : Cut) (r : ℕ) (lead row tail : List (List A)) → f.measures.0 ≡ 0 → f.beats.0 ≡ 0 → b.measures.0 ≡ 0 → b.beats.0 ≡ 0
      → window s n (section_row f b r lead row tail) ≡ window s n (lead ++ (times r row ++ tail))
  unfolding section_row
  uncut_window s n f b r lead row tail e k i j =
      rw (kept_whole f b (times r row) e k i j)
      (whole_append s n lead (whole_of (times r row) ++ whole_of tail) (times r row ++ tail)
      (λ s n. whole_append s n (times r row) (whole_of tail) tail (λ s n. window_whole s n tail)))

  -- A table with more room than the row has beats.
  pub window_room : (s n m : ℕ) (row : List (List A)) → total row ≤ m → window s (min n m) row ≡ window s n row
  window_room s n m row h =
      by_cases (leb n m)
      (λ q. let k = leb-true n m q in
      let e : min n m ≡ n = omega arith in rw e)
      (λ q. let k = leb-false n m q in window_enough s (min n m) n row (omega arith) (omega arith))

  -- What a window keeps has a beat in each measure, whatever the row.
  pub filled_window : (s n : ℕ) (row : List (List A)) → Filled (window s n row)
  unfolding window Filled
  filled_window s n [] = tt
  filled_window s n (x ∷ xs) = filled_keep (take n (drop s x)) _ (filled_window (s - length x) (n - (length x - s)) xs)

  pub filled_section : (f b : Cut) (r : ℕ) (lead row tail : List (List A)) → Filled (section_row f b r lead row tail)
  unfolding section_row whole_of kept_of
  filled_section f b r lead row tail =
      filled_append (whole_of lead) (kept_of f b (times r row) ++ whole_of tail) (filled_window 0 (total lead) lead)
      (filled_append (kept_of f b (times r row)) (whole_of tail) (filled_window _ _ (times r row)) (filled_window 0 (total tail) tail))

  -- A part that begins where a measure begins.
  window_at : (k n : ℕ) (row : List (List A)) → window (total (take k row)) n row ≡ window 0 n (drop k row)
  unfolding window total keep
  window_at zero n row = refl
  window_at (suc k) n [] = refl
  window_at (suc k) n (x ∷ xs) =
      let t = total (take k xs) in
      let e : length x + t - length x ≡ t = omega arith in
      let d : n - (length x - (length x + t)) ≡ n = omega arith in
      rw (drop_of_length-le x {i = length x + t} (omega arith), take-nil {A = A} n, e, d) (window_at k n xs)

  -- Every measure but the last is the row's.
  front_of : (n : ℕ) (x : List A) (xs part : List (List A)) → (n ≤ length x → part ≡ []) → take (length part - 1) part ≡ take (length part - 1) xs
      → take (length part) (take n x ∷ part) ≡ take (length part) (x ∷ xs)
  front_of n x xs [] none h = refl
  front_of n x xs (y ∷ part) none h =
      let e : suc (length part) - 1 ≡ length part = omega arith in
      let i : take (length part) (y ∷ part) ≡ take (length part) xs = rw e at h in
      by_cases (leb n (length x)) (λ q. let z = ap length (none (leb-true n (length x) q)) in absurd (omega arith))
      (λ q. let k = leb-false n (length x) q in rw (take_all n x (omega arith), i))

  window_front : (n : ℕ) (row : List (List A)) → Filled row → take (length (window 0 n row) - 1) (window 0 n row) ≡ take (length (window 0 n row) - 1) row
  unfolding window Filled
  window_front n [] f = take-nil {A = List A} (0 - 1) ∙ sym (take-nil {A = List A} (0 - 1))
  window_front zero (x ∷ xs) f = rw (window_none 0 (x ∷ xs)) refl
  window_front (suc n) (x ∷ xs) f =
      let e : 0 - length x ≡ 0 = omega arith in
      let d : suc n - (length x - 0) ≡ suc n - length x = omega arith in
      let part = window 0 (suc n - length x) xs in
      let l = length-take (suc n) x in
      let some : keep (take (suc n) x) part ≡ take (suc n) x ∷ part = keep_some (take (suc n) x) part (omega (arith, f.0)) in
      let z : suc (length part) - 1 ≡ length part = omega arith in
      rw (e, d, some, z) (front_of (suc n) x xs part (λ h. let k : suc n - length x ≡ 0 = omega arith in rw k (window_none 0 xs))
      (window_front (suc n - length x) xs f.1))

  pub few_measures : (row : List (List A)) → Filled row → length row ≤ total row
  unfolding total Filled
  few_measures [] f = omega arith
  few_measures (x ∷ xs) f = let h = few_measures xs f.1 in omega (arith, f.0)

  length_window : (s n : ℕ) (row : List (List A)) → length (window s n row) ≤ length row
  unfolding window
  length_window s n [] = omega arith
  length_window s n (x ∷ xs) =
      let h = length_window (s - length x) (n - (length x - s)) xs in
      length_kept (take n (drop s x)) (window (s - length x) (n - (length x - s)) xs) (length xs) h
    where
      length_kept : (y : List A) (r : List (List A)) (k : ℕ) → length r ≤ k → length (keep y r) ≤ suc k
      length_kept [] r k h = omega arith
      length_kept (w ∷ y) r k h = omega arith

-- What a part of n beats says of a row, where it begins with the measure of number k.
pub record PartOf {A : Type 0} (row : List (List A)) (k n : ℕ) (part : List (List A)) : Type 0 where
  -- one that is not full reaches the end
  pub last : total part < n → part ≡ drop k row
  -- all its measures but the last are those of the row; another part may begin behind any of them
  pub front : (j : ℕ) → j < length part → take j part ≡ take j (drop k row)
  pub next : (j : ℕ) → j < length part → total (take k row) + total (take j part) ≡ total (take (k + j) row)
  -- a table of n measures holds its measures
  pub few : length part ≤ n
  pub inside : length part ≤ length row - k

module _ {A : Type 0} where
  filled_drop : (k : ℕ) (row : List (List A)) → Filled row → Filled (drop k row)
  unfolding Filled
  filled_drop zero row f = f
  filled_drop (suc k) [] f = tt
  filled_drop (suc k) (x ∷ xs) f = filled_drop k xs f.1

  -- The parts are the row: a caller at measure k plays n beats behind those of the measures before it.
  pub part_of : (k n : ℕ) (row : List (List A)) → Filled row → PartOf row k n (window (total (take k row)) n row)
  part_of k n row f =
      let rest = drop k row in
      let g = filled_drop k row f in
      let part = window 0 n rest in
      let t = total_window 0 n rest in
      let front : (j : ℕ) → j < length part → take j part ≡ take j rest =
      λ j h.
      sym (take-take j (length part - 1) part (omega arith)) ∙ ap (take j) (window_front n rest g) ∙ take-take j (length part - 1) rest (omega arith) in
      let m = few_measures part (filled_window 0 n rest) in
      let l = length_window 0 n rest in
      let d = length-drop k row in
      rw (window_at k n row)
      (record {
        last = λ h. window_filled n rest g (omega arith);
        front = front;
        next = λ j h. rw (front j h, take-add k j row) (sym (total_append (take k row) (take j rest)));
        few = omega arith;
        inside = omega arith;
      })

-- Each measure of a part has 32 beats at most, so that a full part of more beats than that has a measure in front of its last.
short_keep : (y : List ℕ) (row : List (List ℕ)) → length y ≤ 32 → Short row → Short (keep y row)
unfolding keep Short
short_keep [] row h f = f
short_keep (w ∷ y) row h f = (h, f)

pub short_window : (s n : ℕ) (row : List (List ℕ)) → Short row → Short (window s n row)
unfolding window Short
short_window s n [] f = tt
short_window s n (x ∷ xs) f =
    let a = length-take n (drop s x) in
    let b = length-drop s x in
    short_keep (take n (drop s x)) _ (omega (arith, f.0)) (short_window (s - length x) (n - (length x - s)) xs f.1)

pub short_section : (f b : Cut) (r : ℕ) (lead row tail : List (List ℕ)) → Short lead → Short row → Short tail → Short (section_row f b r lead row tail)
unfolding section_row whole_of kept_of
short_section f b r lead row tail x y z =
    short_append (whole_of lead) (kept_of f b (times r row) ++ whole_of tail) (short_window 0 (total lead) lead x)
    (short_append (kept_of f b (times r row)) (whole_of tail) (short_window _ _ (times r row) (short_times r row y)) (short_window 0 (total tail) tail z))

pub part_goes_on : (s n : ℕ) (row : List (List ℕ)) → Short row → 33 ≤ n → n ≤ total (window s n row) → 2 ≤ length (window s n row)
part_goes_on s n row f h k = let t = total_short (window s n row) (short_window s n row f) in omega arith

-- Where a measure and its beats stand in the two tables of a row.
module _ {A : Type 0} where
  pub heads_at_lem : (first i : ℕ) (row : List (List A)) → i < length row
      → get_or (heads first row) i 0 ≡ measure_word (first + total (take i row)) (length (get_or row i []))
  unfolding heads total
  heads_at_lem first i [] h = absurd (omega arith)
  heads_at_lem first zero (x ∷ xs) h = let e : first + 0 ≡ first = omega arith in rw e
  heads_at_lem first (suc i) (x ∷ xs) h =
      let e : first + length x + total (take i xs) ≡ first + (length x + total (take i xs)) = omega arith in
      heads_at_lem (first + length x) i xs (omega arith) ∙ rw e

  pub beats_at : (i : ℕ) (row : List (List A)) → take (length (get_or row i [])) (drop (total (take i row)) (flat row)) ≡ get_or row i []
  unfolding flat total
  beats_at i [] = refl
  beats_at zero (x ∷ xs) = take-append_seam x (flat xs)
  beats_at (suc i) (x ∷ xs) = rw (← drop-drop) (rw (drop_at x (flat xs) (length x) refl) (beats_at i xs))
