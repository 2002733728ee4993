-- Laws of the window: how many beats it holds, and rows of which it keeps all.
use Rattle.std.proofs.Common.{◌≡◌, ℕ, suc, ◌+◌, ◌-◌, ◌≤◌, min, Bool, true, false, leb, List, [], ◌∷◌, ◌++◌, length, take, drop, refl, ap, ◌∙◌, append_assoc}
use Rattle.std.proofs.Common.{arith, length-append, length-drop, length-take, take_all, leb-false, leb-true}
use Rattle.songcode.specs.Answer.Playing.{keep}
use Rattle.songcode.specs.Description.Performance.{total}
use Rattle.songcode.specs.EitherOrder.{Filled}
use Rattle.songcode.proofs.CutFront.{keep_some}
use Rattle.songcode.proofs.CutLaws.{total_keep}
use Rattle.player.specs.Windows.{window, whole_of, flat, heads}

sum_min : (n d t : ℕ) → min n d + min (n - d) t ≡ min n (d + t)
sum_min n d t = omega arith

sums : (n s l t : ℕ) → min n (l - s) + min (n - (l - s)) (t - (s - l)) ≡ min n (l + t - s)
sums n s l t = go (leb s l) refl
  where
    go : (q : Bool) → leb s l ≡ q → min n (l - s) + min (n - (l - s)) (t - (s - l)) ≡ min n (l + t - s)
    go true e =
        let h = leb-true s l e in
        let a : t - (s - l) ≡ t = omega arith in
        let c : l + t - s ≡ l - s + t = omega arith in
        rw (a, c) (sum_min n (l - s) t)
    go false e =
        let h = leb-false s l e in
        let a : l - s ≡ 0 = omega arith in
        let c : l + t - s ≡ 0 + (t - (s - l)) = omega arith in
        rw (a, c) (sum_min n 0 (t - (s - l)))

-- A measure of l beats and t behind it.
enough : (n s l t : ℕ) → l + t - s ≤ n → (l - s ≤ n) × (t - (s - l) ≤ n - (l - s))
enough n s l t h = (omega arith, omega arith)

module _ {A : Type 0} where
  -- How many beats the window holds.
  pub total_window : (s n : ℕ) (row : List (List A)) → total (window s n row) ≡ min n (total row - s)
  unfolding window total
  total_window s n [] = omega arith
  total_window s n (x ∷ xs) =
      let h = total_window (s - length x) (n - (length x - s)) xs in
      let l : length (take n (drop s x)) ≡ min n (length x - s) = length-take n (drop s x) ∙ ap (min n) (length-drop s x) in
      rw (total_keep (take n (drop s x)) (window (s - length x) (n - (length x - s)) xs), l, h) (sums n s (length x) (total xs))

  pub window_none : (s : ℕ) (row : List (List A)) → window s 0 row ≡ []
  unfolding window keep
  window_none s [] = refl
  window_none s (x ∷ xs) = let e : 0 - (length x - s) ≡ 0 = omega arith in rw e (window_none (s - length x) xs)

  -- A window over all beats that are left is the same, however large.
  pub window_enough : (s n m : ℕ) (row : List (List A)) → total row - s ≤ n → total row - s ≤ m → window s n row ≡ window s m row
  unfolding window total
  window_enough s n m [] h k = refl
  window_enough s n m (x ∷ xs) h k =
      let d = length-drop s x in
      let a = enough n s (length x) (total xs) h in
      let b = enough m s (length x) (total xs) k in
      rw (
        take_all n (drop s x) (omega arith),
        take_all m (drop s x) (omega arith),
        window_enough (s - length x) (n - (length x - s))
            (m - (length x - s)) xs a.1 b.1,
      )

  pub window_large : (n m : ℕ) (row : List (List A)) → total row ≤ n → total row ≤ m → window 0 n row ≡ window 0 m row
  window_large n m row h k = window_enough 0 n m row (omega arith) (omega arith)

  -- It keeps every measure that has a beat.
  pub window_filled : (n : ℕ) (row : List (List A)) → Filled row → total row ≤ n → window 0 n row ≡ row
  unfolding window total Filled
  window_filled n [] f h = refl
  window_filled n (x ∷ xs) f h =
      let e : 0 - length x ≡ 0 = omega arith in
      rw (e, take_all n x (omega arith), window_filled (n - (length x - 0)) xs f.1 (omega arith)) (keep_some x xs f.0)

  pub whole_filled : (row : List (List A)) → Filled row → whole_of row ≡ row
  unfolding whole_of
  whole_filled row f = window_filled (total row) row f (omega arith)

  -- The words of rows behind one another.
  pub length_flat : (row : List (List A)) → length (flat row) ≡ total row
  unfolding flat total
  length_flat [] = refl
  length_flat (x ∷ xs) = let h = length_flat xs in rw (length-append x (flat xs)) (omega arith)

  pub length_heads : (f : ℕ) (row : List (List A)) → length (heads f row) ≡ length row
  unfolding heads
  length_heads f [] = refl
  length_heads f (x ∷ xs) = ap suc (length_heads (f + length x) xs)

  pub flat_append : (a b : List (List A)) → flat (a ++ b) ≡ flat a ++ flat b
  unfolding flat
  flat_append [] b = refl
  flat_append (x ∷ a) b = rw (flat_append a b, append_assoc)

  pub heads_append : (f : ℕ) (a b : List (List A)) → heads f (a ++ b) ≡ heads f a ++ heads (f + total a) b
  unfolding heads total
  heads_append f [] b = let e : f + 0 ≡ f = omega arith in rw e
  heads_append f (x ∷ a) b = let e : f + length x + total a ≡ f + (length x + total a) = omega arith in rw (heads_append (f + length x) a b, e)
