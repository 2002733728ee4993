-- Laws of cut rows: n beats lost at the front, n beats kept at the front. Whole measures are beats, and the back is the front of the row turned.
use Prim.Native.Nat.{ℕ, zero, suc, ◌+◌, ◌-◌, ◌≤◌, min}
use mathlib.Core.Path.{◌≡◌, refl, sym, ap, ◌∙◌}
use mathlib.Core.List.{List, [], ◌∷◌, ◌++◌, reverse, reverse-reverse, reverse-append}
use mathlib.Core.Bool.{Bool, true, false}
use native.Mathlib.Omega.{arith}
use borrow.Author.Tests.{leb-true, leb-false}
use lib.Dec.{leb}
use lib.ListN.{length, take, drop, length-take, length-drop, length-reverse, drop_of_length-le, take-append-drop}
use lib.Seq.{take-nil, drop-nil, drop-drop, drop_at, take-append_seam}
use Rattle.songcode.specs.Song.{Cut}
use Rattle.songcode.specs.Answer.Playing.{keep, drop_beats, drop_measures, cut_front, turned, cut_back}
use Rattle.songcode.specs.Description.Performance.{total}
use Rattle.songcode.specs.EitherOrder.{Filled}
use Rattle.songcode.proofs.CutFront.{keep_some, drop_none}
use Rattle.songcode.proofs.TurnedRows.{turned_nil, turned_cons, turned_append, filled_turned, total_append, total_turned, length_turned}

ends : (l t k : ℕ) → min (l - (k - t)) l ≡ min (l + t - k) l
ends l t k = omega arith

take_same : {A : Type 0} (a b : ℕ) (x : List A) → min a (length x) ≡ min b (length x) → take a x ≡ take b x
take_same a b [] h = take-nil a ∙ sym (take-nil b)
take_same zero zero (w ∷ x) h = refl
take_same zero (suc b) (w ∷ x) h = let z : ⊥ = omega arith in absurd z
take_same (suc a) zero (w ∷ x) h = let z : ⊥ = omega arith in absurd z
take_same (suc a) (suc b) (w ∷ x) h = ap (λ ys. w ∷ ys) (take_same a b x (omega arith))

module _ {A : Type 0} where
  pub total_keep : (y : List A) (r : List (List A)) → total (keep y r) ≡ length y + total r
  unfolding total keep
  total_keep [] r = omega arith
  total_keep (w ∷ y) r = refl

  keep_append : (y : List A) (a b : List (List A)) → keep y (a ++ b) ≡ keep y a ++ b
  unfolding keep
  keep_append [] a b = refl
  keep_append (w ∷ y) a b = refl

  -- n beats taken from the front; n beats kept at the front.
  abbrev pub lose : ℕ → List (List A) → List (List A)
  lose n row = drop_beats (record { beats = n }) row

  unfoldable pub stay : ℕ → List (List A) → List (List A)
  stay n [] = []
  stay n (x ∷ xs) = keep (take n x) (stay (n - length x) xs)

  -- The beats of a row before what a cut leaves at its front, and those up to where a cut at its back ends it.
  abbrev pub beats_before : Cut → List (List A) → ℕ
  beats_before c row = total (take c.whole.measures row) + c.further.beats

  abbrev pub beats_up_to : Cut → List (List A) → ℕ
  beats_up_to c row = total (take (length row - c.whole.measures) row) - c.further.beats

  lose_append : (n : ℕ) (a b : List (List A)) → lose n (a ++ b) ≡ lose n a ++ lose (n - total a) b
  unfolding drop_beats total
  lose_append n [] b = let e : n - 0 ≡ n = omega arith in rw e
  lose_append n (x ∷ a) b =
      let e : n - length x - total a ≡ n - (length x + total a) = omega arith in
      rw (lose_append (n - length x) a b, keep_append, e)

  pub lose_keep : (n : ℕ) (y : List A) (r : List (List A)) → lose n (keep y r) ≡ keep (drop n y) (lose (n - length y) r)
  unfolding drop_beats keep
  lose_keep n [] r = let e : n - 0 ≡ n = omega arith in rw (drop-nil n, e)
  lose_keep n (w ∷ y) r = refl

  lose_lose : (a b : ℕ) (row : List (List A)) → lose a (lose b row) ≡ lose (b + a) row
  unfolding drop_beats
  lose_lose a b [] = refl
  lose_lose a b (x ∷ xs) =
      let e : b - length x + (a - (length x - b)) ≡ b + a - length x = omega arith in
      rw (lose_keep a (drop b x) (lose (b - length x) xs), drop-drop a b x, length-drop b x, lose_lose (a - (length x - b)) (b - length x) xs, e)

  -- Whole measures are beats.
  drop_lose : (m : ℕ) (row : List (List A)) → Filled row → drop m row ≡ lose (total (take m row)) row
  unfolding drop_beats Filled total keep
  drop_lose zero row f = sym (drop_none row f)
  drop_lose (suc m) [] f = refl
  drop_lose (suc m) (x ∷ xs) f =
      let e : length x + total (take m xs) - length x ≡ total (take m xs) = omega arith in
      rw (e, drop_of_length-le x {i = length x + total (take m xs)} (omega arith)) (drop_lose m xs f.1)

  pub front_loses : (c : Cut) (row : List (List A)) → Filled row → cut_front c row ≡ lose (beats_before c row) row
  unfolding cut_front drop_measures
  front_loses c row f = rw (drop_lose c.whole.measures row f) (lose_lose c.further.beats (total (take c.whole.measures row)) row)

  -- The row turned.
  turned_keep : (y : List A) → turned (keep y []) ≡ keep (reverse y) []
  unfolding keep
  turned_keep [] = turned_nil
  turned_keep (w ∷ y) =
      turned_cons (w ∷ y) [] ∙ ap (λ r. r ++ (reverse (w ∷ y) ∷ [])) turned_nil
      ∙ sym (keep_some (reverse (w ∷ y)) [] (rw (length-reverse (w ∷ y)) (omega arith)))

  reverse_drop : (j : ℕ) (x : List A) → reverse (drop j (reverse x)) ≡ take (length x - j) x
  reverse_drop j x =
      let k = length x - j in
      let l = length-reverse x in
      let e : reverse x ≡ reverse (drop k x) ++ reverse (take k x) = ap reverse (sym (take-append-drop k x)) ∙ reverse-append (take k x) (drop k x) in
      let n : length (reverse (drop k x)) ≡ length x - k = length-reverse (drop k x) ∙ length-drop k x in
      go k refl e n (leb j (length x)) refl
    where
      go : (k : ℕ) → k ≡ length x - j → reverse x ≡ reverse (drop k x) ++ reverse (take k x) → length (reverse (drop k x)) ≡ length x - k
          → (t : Bool) → leb j (length x) ≡ t → reverse (drop j (reverse x)) ≡ take k x
      go k q e n true b =
          let h = leb-true j (length x) b in
          rw (e, drop_at (reverse (drop k x)) (reverse (take k x)) j (omega arith), reverse-reverse (take k x))
      go k q e n false b =
          let h = leb-false j (length x) b in
          let z : k ≡ 0 = omega arith in
          rw (drop_of_length-le (reverse x) {i = j} (rw (length-reverse x) (omega arith)), z)

  pub turned_lose : (k : ℕ) (row : List (List A)) → turned (lose k (turned row)) ≡ stay (total row - k) row
  unfolding drop_beats total stay
  turned_lose k [] = rw turned_nil turned_nil
  turned_lose k (x ∷ xs) =
      let e : length x + total xs - k - length x ≡ total xs - k = omega arith in
      rw (
        turned_cons x xs,
        lose_append k (turned xs) (reverse x ∷ []),
        total_turned xs,
        turned_append (lose k (turned xs)) (keep (drop (k - total xs) (reverse x)) []),
        turned_keep (drop (k - total xs) (reverse x)),
        reverse_drop (k - total xs) x,
        turned_lose k xs,
        e,
        ← keep_append (take (length x - (k - total xs)) x) [] (stay (total xs - k) xs),
        take_same (length x - (k - total xs)) (length x + total xs - k) x (ends (length x) (total xs) k),
      )

  -- Beats of what was lost and kept.
  pub total_lose : (n : ℕ) (row : List (List A)) → total (lose n row) ≡ total row - n
  unfolding drop_beats total
  total_lose n [] = omega arith
  total_lose n (x ∷ xs) = let h = total_lose (n - length x) xs in rw (total_keep (drop n x) (lose (n - length x) xs), length-drop n x) (omega arith)

  pub stay_none : (ys : List (List A)) → stay 0 ys ≡ []
  unfolding stay keep
  stay_none [] = refl
  stay_none (y ∷ ys) = let e : 0 - length y ≡ 0 = omega arith in rw e (stay_none ys)

  pub total_take_stay : (m n : ℕ) (row : List (List A)) → Filled row → total (take m (stay n row)) ≡ min n (total (take m row))
  unfolding stay total Filled keep
  total_take_stay m n [] g = rw (take-nil {A = List A} m) (omega arith)
  total_take_stay zero n (x ∷ xs) g = omega arith
  total_take_stay (suc m) zero (x ∷ xs) g = let e : 0 - length x ≡ 0 = omega arith in rw (e, stay_none xs) (omega arith)
  total_take_stay (suc m) (suc n) (x ∷ xs) g =
      let h = total_take_stay m (suc n - length x) xs g.1 in
      let l = length-take (suc n) x in
      rw (keep_some (take (suc n) x) (stay (suc n - length x) xs) (omega (arith, g.0))) (omega arith)

  pub stay_keep : (n : ℕ) (y : List A) (r : List (List A)) → stay n (keep y r) ≡ keep (take n y) (stay (n - length y) r)
  unfolding stay keep
  stay_keep n [] r = let e : n - 0 ≡ n = omega arith in rw (take-nil {A = A} n, e)
  stay_keep n (w ∷ y) r = refl

  pub back_stays : (c : Cut) (row : List (List A)) → Filled row → cut_back c row ≡ stay (total row - beats_before c (turned row)) row
  unfolding cut_back
  back_stays c row f = rw (front_loses c (turned row) (filled_turned row f)) (turned_lose (beats_before c (turned row)) row)

  pub total_take_le : (m : ℕ) (row : List (List A)) → total (take m row) ≤ total row
  total_take_le m row =
      let e = ap total (take-append-drop m row) in
      let f = total_append (take m row) (drop m row) in
      omega arith

  pub take_turned : (m : ℕ) (row : List (List A)) → total (take m (turned row)) ≡ total row - total (take (length row - m) row)
  take_turned m row =
      let k = length row - m in
      let e : turned row ≡ turned (drop k row) ++ turned (take k row) =
      ap (λ r. turned r) (sym (take-append-drop k row)) ∙ turned_append (take k row) (drop k row) in
      let l : length (turned (drop k row)) ≡ length row - k = length_turned (drop k row) ∙ length-drop k row in
      let n = length_turned row in
      let t : take m (turned row) ≡ turned (drop k row) =
      take_same m (length (turned (drop k row))) (turned row) (omega arith)
      ∙ ap (take (length (turned (drop k row)))) e
      ∙ take-append_seam (turned (drop k row)) (turned (take k row)) in
      let u = total_turned (drop k row) in
      let v = ap total (take-append-drop k row) in
      let w = total_append (take k row) (drop k row) in
      rw t (omega arith)
