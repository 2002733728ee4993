-- Rows whose measures all have n beats: their beats, and the measures of a window, by arithmetic.
use Rattle.std.proofs.Common.{◌≡◌, ℕ, zero, suc, ◌+◌, ◌-◌, ◌*◌, ◌/◌, ◌<◌, ◌≤◌, min, leb, List, [], ◌∷◌, ◌++◌, length, take, drop, sym, refl, ap, ◌∙◌}
use Rattle.std.proofs.Common.{mul-le-mul, mul-suc, arith, length-drop, drop_of_length-le, length-take, take_all, leb-false, leb-true}
use native.Mathlib.Nat.{add-div_right, div-eq_of_lt}
use Rattle.songcode.specs.Lists.{times}
use Rattle.songcode.specs.Answer.Playing.{keep}
use Rattle.songcode.specs.Description.Performance.{total}
use Rattle.songcode.proofs.ListLaws.{by_cases, times_length}
use Rattle.songcode.proofs.CutFront.{keep_some}
use Rattle.songcode.proofs.CutLaws.{total_take_le}
use Rattle.cuts.specs.declared.Cut.{Cut}
use Rattle.player.specs.Windows.{window, first_beat, last_beat, kept_of}
use Rattle.player.specs.Even.{Level, Even, spanned}
use Rattle.player.proofs.WindowLaws.{window_none}

module _ {A : Type 0} where
  pub level_append : (n : ℕ) (a b : List (List A)) → Level n a → Level n b → Level n (a ++ b)
  unfolding Level
  level_append n [] b f g = g
  level_append n (x ∷ a) b f g = (f.0, level_append n a b f.1 g)

  pub level_times : (n k : ℕ) (row : List (List A)) → Level n row → Level n (times k row)
  unfolding times Level
  level_times n zero row f = tt
  level_times n (suc k) row f = level_append n row (times k row) f (level_times n k row f)

  -- The beats of the first j measures.
  pub level_total : (n j : ℕ) (row : List (List A)) → Level n row → total (take j row) ≡ n * min j (length row)
  unfolding total Level
  level_total n zero row f = let e : min 0 (length row) ≡ 0 = omega arith in rw e (omega arith)
  level_total n (suc j) [] f = let e : min (suc j) 0 ≡ 0 = omega arith in rw e (omega arith)
  level_total n (suc j) (x ∷ xs) f =
      let h = level_total n j xs f.1 in
      let e : min (suc j) (suc (length xs)) ≡ suc (min j (length xs)) = omega arith in
      rw (e, mul-suc n (min j (length xs)), h, f.0) (omega arith)

  pub level_all : (n : ℕ) (row : List (List A)) → Level n row → total row ≡ n * length row
  level_all n row f =
      let t : take (length row) row ≡ row = take_all (length row) row (omega arith) in
      let e : min (length row) (length row) ≡ length row = omega arith in
      rw (t, e) at (level_total n (length row) row f)

-- A window's measures: those from the first of its beats to the last.
spanned_behind : (n s l : ℕ) → 1 ≤ n → n ≤ s → spanned n (s - n) (suc l) ≡ spanned n s (suc l)
unfolding spanned
spanned_behind n s l h k =
    let a : s + l ≡ s - n + l + n = omega arith in
    let b : s ≡ s - n + n = omega arith in
    let p : (s + l) / n ≡ (s - n + l) / n + 1 = ap (λ x. x / n) a ∙ add-div_right (s - n + l) h in
    let q : s / n ≡ (s - n) / n + 1 = ap (λ x. x / n) b ∙ add-div_right (s - n) h in
    rw (p, q) (omega arith)

spanned_first : (n s l : ℕ) → s + l < n → spanned n s (suc l) ≡ 1
unfolding spanned
spanned_first n s l h = rw (div-eq_of_lt {n = s + l} {m = n} h, div-eq_of_lt {n = s} {m = n} (omega arith))

spanned_more : (n s l : ℕ) → 1 ≤ n → s < n → spanned n s (suc (l + (n - s))) ≡ suc (spanned n 0 (suc l))
unfolding spanned
spanned_more n s l h k =
    let a : s + (l + (n - s)) ≡ l + n = omega arith in
    let p : (s + (l + (n - s))) / n ≡ l / n + 1 = ap (λ x. x / n) a ∙ add-div_right l h in
    let z : 0 + l ≡ l = omega arith in
    rw (p, z, div-eq_of_lt {n = s} {m = n} k, div-eq_of_lt {n = 0} {m = n} (omega arith)) (omega arith)

pub spanned_none : (n s : ℕ) → spanned n s 0 ≡ 0
unfolding spanned
spanned_none n s = refl

pub spanned_some : (n s l : ℕ) → (l ≡ 0 → ⊥) → (s + l - 1) / n - s / n + 1 ≡ spanned n s l
unfolding spanned
spanned_some n s zero h = absurd (h refl)
spanned_some n s (suc l) h = let e : s + suc l - 1 ≡ s + l = omega arith in rw e

module _ {A : Type 0} (n : ℕ) (some : 1 ≤ n) where
  -- A measure that is passed over.
  passed_measure : (s l : ℕ) (x : List A) (xs : List (List A)) → length x ≡ n → n ≤ s → length (window s (suc l) (x ∷ xs)) ≡ length (window (s - n) (suc l) xs)
  unfolding window keep
  passed_measure s l x xs e k =
      let a : suc l - (length x - s) ≡ suc l = omega arith in
      let b : s - length x ≡ s - n = ap (λ y. s - y) e in
      let d : drop s x ≡ [] = drop_of_length-le x {i = s} (omega arith) in
      rw (d, a, b) refl

  -- A measure of which a beat is kept, and those behind it.
  more_measures : (s l : ℕ) (x : List A) (xs : List (List A)) → length x ≡ n → s < n
      → length (window s (suc l) (x ∷ xs)) ≡ suc (length (window 0 (suc l - (n - s)) xs))
  unfolding window
  more_measures s l x xs e k =
      let a : s - length x ≡ 0 = omega arith in
      let b : length x - s ≡ n - s = ap (λ y. y - s) e in
      let c : length (take (suc l) (drop s x)) ≡ min (suc l) (n - s) = length-take (suc l) (drop s x) ∙ ap (min (suc l)) (length-drop s x ∙ b) in
      rw (a, b, keep_some (take (suc l) (drop s x)) (window 0 (suc l - (n - s)) xs) (omega arith)) refl

  abbrev Spans : List (List A) → Type 0
  Spans row = (s l : ℕ) → l ≤ total row - s → length (window s l row) ≡ spanned n s l

  -- The measure at hand, where it is known of those behind it.
  next_spans : (x : List A) (xs : List (List A)) → length x ≡ n → Spans xs → Spans (x ∷ xs)
  unfolding total
  next_spans x xs e more s zero h = ap length (window_none s (x ∷ xs)) ∙ sym (spanned_none n s)
  next_spans x xs e more s (suc l) h =
      by_cases (leb n s)
      (λ q. let k = leb-true n s q in passed_measure s l x xs e k ∙ more (s - n) (suc l) (omega arith) ∙ spanned_behind n s l some k)
      (λ q. let k = leb-false n s q in more_measures s l x xs e k ∙ by_cases (leb (n - s) l)
      (λ r.
      let i = leb-true (n - s) l r in
      let m = l - (n - s) in
      let a : suc l - (n - s) ≡ suc m = omega arith in
      let b : l ≡ m + (n - s) = omega arith in
      rw a (ap suc (more 0 (suc m) (omega arith)) ∙ sym (ap (λ y. spanned n s (suc y)) b ∙ spanned_more n s m some k)))
      (λ r.
      let i = leb-false (n - s) l r in
      let a : suc l - (n - s) ≡ 0 = omega arith in
      rw (a, window_none 0 xs) (sym (spanned_first n s l (omega arith)))))

  level_spans : (row : List (List A)) → Level n row → Spans row
  unfolding Level total window
  level_spans [] f = λ s l h. let z : l ≡ 0 = omega arith in rw z (sym (spanned_none n s))
  level_spans (x ∷ xs) f = next_spans x xs f.0 (level_spans xs f.1)

-- What the cuts leave of it.
pub level_kept : {A : Type 0} (n : ℕ) (f b : Cut) (row : List (List A)) → Level n row
    → length (kept_of f b row) ≡ spanned n (first_beat f row) (last_beat b row - first_beat f row)
unfolding kept_of last_beat
level_kept n f b row h =
    let t = total_take_le (length row - b.measures.0) row in
    let k = level_all n row h in
    by_cases (leb 1 n)
    (λ q. level_spans n (leb-true 1 n q) row h (first_beat f row) (total (take (length row - b.measures.0) row) - b.beats.0 - first_beat f row) (omega arith))
    (λ q.
    let z : n ≡ 0 = let l = leb-false 1 n q in omega arith in
    let w : total row ≡ 0 = k ∙ ap (λ y. y * length row) z ∙ omega arith in
    let a : total (take (length row - b.measures.0) row) - b.beats.0 - first_beat f row ≡ 0 = omega arith in
    rw (a, window_none (first_beat f row) row) (sym (spanned_none n (first_beat f row))))

-- An even row, played r times.
module _ {n k : ℕ} {row : List (List ℕ)} (e : Even n k row) (r : ℕ) where
  pub even_measures_lem : r * k ≡ length (times r row)
  even_measures_lem = sym (times_length r row ∙ ap (λ x. r * x) e.size)

  pub even_beats : (j : ℕ) → n * min j (r * k) ≡ total (take j (times r row))
  even_beats j = ap (λ x. n * min j x) even_measures_lem ∙ sym (level_total n j (times r row) (level_times n r row e.level))

pub even_few : (n m : ℕ) → n ≤ 32 → m ≤ 65536 → n * m ≤ 2097152
even_few n m h k = mul-le-mul h k

-- Both ways through a span, for a check that finds its proof by them.
pub ruleset span_ways = (spanned_none, spanned_some)
