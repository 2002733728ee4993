-- The two cuts in either order leave the same.
use Prim.Native.Nat.{ℕ, ◌+◌, ◌-◌, ◌<◌, ◌≤◌, min}
use mathlib.Core.Path.{◌≡◌, refl, sym, ap, subst, ◌∙◌}
use mathlib.Core.Logic.{◌↔◌}
use mathlib.Core.List.{List, [], ◌∷◌}
use mathlib.Core.Bool.{Bool, true, false}
use native.Mathlib.Omega.{arith}
use borrow.Author.Tests.{leb-true, leb-false}
use lib.Dec.{leb}
use lib.ListN.{length, take, drop, length-append, length-take, length-drop}
use lib.Seq.{drop-nil}
use Rattle.songcode.specs.Song.{Cut}
use Rattle.songcode.specs.Answer.Playing.{keep, drop_beats, drop_measures, cut_front, turned, cut_back}
use Rattle.songcode.specs.Description.Performance.{total, CutsFront, CutsBack}
use Rattle.songcode.specs.EitherOrder.{Filled, FrontFirst, BackFirst}
use Rattle.songcode.proofs.ListLaws.{drop_take}
use Rattle.songcode.proofs.CutFront.{front_cut, cut_front_lem, filled_keep, filled_drop_beats, filled_cut_front}
use Rattle.songcode.proofs.CutBack.{back_cut, cut_back_lem, filled_cut_back}
use Rattle.songcode.proofs.TurnedRows.{turned_nil, turned_turned, filled_turned, total_turned}
use Rattle.songcode.proofs.CutLaws.{lose, stay, beats_before, beats_up_to, lose_keep, stay_keep, stay_none, total_lose, total_take_stay}
use Rattle.songcode.proofs.CutLaws.{turned_lose, front_loses, back_stays, take_turned, total_take_le}

none_before : (n l d : ℕ) → n < l → n - l - d ≡ 0
none_before n l d h = omega arith

none_behind_lem : (n l s : ℕ) → n < l → n - s - (l - s) ≡ 0
none_behind_lem n l s h = omega arith

same_left : (n l s : ℕ) → l ≤ n → n - l - (s - l) ≡ n - s - (l - s)
same_left n l s h = go (leb s l) refl
  where
    go : (q : Bool) → leb s l ≡ q → n - l - (s - l) ≡ n - s - (l - s)
    go true e =
        let k = leb-true s l e in
        let a : s - l ≡ 0 = omega arith in
        rw a (omega arith)
    go false e =
        let k = leb-false s l e in
        let a : l - s ≡ 0 = omega arith in
        rw a (omega arith)

left_over : (t s e b : ℕ) → e ≤ t → t - s - (min (t - s) (t - e) + b) ≡ e - b - s
left_over t s e b h = omega arith

kept_up_to : (t e b : ℕ) → e ≤ t → t - (t - e + b) ≡ e - b
kept_up_to t e b h = omega arith

module _ {A : Type 0} where
  -- Beats lost at the front and kept up to a place: in either order.
  lose_stay : (s n : ℕ) (row : List (List A)) → lose s (stay n row) ≡ stay (n - s) (lose s row)
  unfolding drop_beats stay
  lose_stay s n [] = refl
  lose_stay s n (x ∷ xs) =
      rw (
        lose_keep s (take n x) (stay (n - length x) xs),
        drop_take s n x,
        length-take n x,
        lose_stay (s - min n (length x)) (n - length x) xs,
        stay_keep (n - s) (drop s x) (lose (s - length x) xs),
        length-drop s x,
      )
      (ap (λ r. keep (take (n - s) (drop s x)) r) (go (leb (length x) n) refl))
    where
      go : (t : Bool) → leb (length x) n ≡ t
          → stay (n - length x - (s - min n (length x))) (lose (s - min n (length x)) xs) ≡ stay (n - s - (length x - s)) (lose (s - length x) xs)
      go true e =
          let h = leb-true (length x) n e in
          let a : min n (length x) ≡ length x = omega arith in
          let b : n - length x - (s - length x) ≡ n - s - (length x - s) = same_left n (length x) s h in
          rw (a, b)
      go false e =
          let h = leb-false (length x) n e in
          let a : n - length x - (s - min n (length x)) ≡ 0 = none_before n (length x) (s - min n (length x)) h in
          let b : n - s - (length x - s) ≡ 0 = none_behind_lem n (length x) s h in
          rw (a, b, stay_none (lose (s - min n (length x)) xs), stay_none (lose (s - length x) xs))

  filled_stay : (n : ℕ) (row : List (List A)) → Filled row → Filled (stay n row)
  unfolding stay Filled
  filled_stay n [] f = tt
  filled_stay n (x ∷ xs) f = filled_keep (take n x) (stay (n - length x) xs) (filled_stay (n - length x) xs f.1)

  -- Both orders as one: beats up to e are kept, then as many lost as the front cut names of the whole row.
  front_stays : (f : Cut) (e : ℕ) (row : List (List A)) → Filled row → cut_front f (stay e row) ≡ stay (e - beats_before f row) (lose (beats_before f row) row)
  front_stays f e row g =
      let t = total (take f.whole.measures row) in
      let b = f.further.beats in
      rw (front_loses f (stay e row) (filled_stay e row g), total_take_stay f.whole.measures e row g, lose_stay (min e t + b) e row) (go t b (leb t e) refl)
    where
      go : (t b : ℕ) (q : Bool) → leb t e ≡ q → stay (e - (min e t + b)) (lose (min e t + b) row) ≡ stay (e - (t + b)) (lose (t + b) row)
      go t b true h =
          let l = leb-true t e h in
          let a : min e t ≡ t = omega arith in
          rw a
      go t b false h =
          let l = leb-false t e h in
          let x : e - (min e t + b) ≡ 0 = omega arith in
          let y : e - (t + b) ≡ 0 = omega arith in
          rw (x, y, stay_none (lose (min e t + b) row), stay_none (lose (t + b) row))

  -- Both cuts by the beats that they leave: none before the front's, none behind the back's.
  pub front_first : (f b : Cut) (row : List (List A)) → Filled row
      → cut_back b (cut_front f row) ≡ stay (beats_up_to b row - beats_before f row) (lose (beats_before f row) row)
  front_first f b row g =
      let m = b.whole.measures in
      let s = beats_before f row in
      let r = lose s row in
      let t : turned r ≡ stay (total (turned row) - s) (turned row) = ap (λ q. turned (lose s q)) (sym (turned_turned row)) ∙ turned_lose s (turned row) in
      let x : total (take m (turned r)) ≡ min (total (turned row) - s) (total (take m (turned row))) =
      ap (λ q. total (take m q)) t ∙ total_take_stay m (total (turned row) - s) (turned row) (filled_turned row g) in
      let n : total r - beats_before b (turned r) ≡ beats_up_to b row - s =
      rw (total_lose s row, x, total_turned row, take_turned m row)
      (left_over (total row) s (total (take (length row - m) row)) b.further.beats (total_take_le (length row - m) row)) in
      rw (front_loses f row g) (back_stays b r (filled_drop_beats s row g) ∙ ap (λ k. stay k r) n)

  pub cuts_commute : (f b : Cut) (row : List (List A)) → Filled row → cut_back b (cut_front f row) ≡ cut_front f (cut_back b row)
  cuts_commute f b row g =
      let m = b.whole.measures in
      let k : total row - beats_before b (turned row) ≡ beats_up_to b row =
      rw (take_turned m row) (kept_up_to (total row) (total (take (length row - m) row)) b.further.beats (total_take_le (length row - m) row)) in
      front_first f b row g ∙ sym (rw (back_stays b row g, k) (front_stays f (beats_up_to b row) row g))

  some_left : (b : Cut) (row kept : List (List A)) → CutsBack b row kept → 1 ≤ length kept
  some_left b row kept p = rw (p.keeps, length-append) (omega arith)

  some_front : (f : Cut) (row kept : List (List A)) → CutsFront f row kept → 1 ≤ length kept
  some_front f row kept p = rw p.keeps (omega arith)

  front_nil : (f : Cut) → cut_front {A = A} f [] ≡ []
  unfolding cut_front drop_measures drop_beats
  front_nil f = rw (drop-nil {A = List A} f.whole.measures)

  back_nil : (b : Cut) → cut_back {A = A} b [] ≡ []
  unfolding cut_back
  back_nil b = rw (turned_nil {A = A}, front_nil b) turned_nil

  there : (g : List (List A) → List (List A)) → g [] ≡ [] → (row : List (List A)) → 1 ≤ length (g row) → 1 ≤ length row
  there g n [] h = absurd (let e : length (g []) ≡ 0 = rw n in omega arith)
  there g n (m ∷ row) h = omega arith

  pub either_order : (f b : Cut) (row kept : List (List A)) → Filled row → FrontFirst f b row kept ↔ BackFirst f b row kept
  unfolding FrontFirst BackFirst
  either_order f b row kept g = (
    (λ p.
        let q = front_cut f row p.0 g p.1 in
        let r = back_cut b p.0 kept (subst (λ y. Filled y) q (filled_cut_front f row g)) p.2 in
        let e : cut_front f (cut_back b row) ≡ kept = sym (cuts_commute f b row g) ∙ ap (λ y. cut_back b y) q ∙ r in
        let n : 1 ≤ length (cut_front f (cut_back b row)) = rw e (some_left b p.0 kept p.2) in
        let k = there (λ y. cut_front f y) (front_nil f) (cut_back b row) n in
        (cut_back b row, cut_back_lem b row g k, subst (λ y. CutsFront f (cut_back b row) y) e (cut_front_lem f (cut_back b row) (filled_cut_back b row g) n))),
    (λ p.
        let q = back_cut b row p.0 g p.1 in
        let r = front_cut f p.0 kept (subst (λ y. Filled y) q (filled_cut_back b row g)) p.2 in
        let e : cut_back b (cut_front f row) ≡ kept = cuts_commute f b row g ∙ ap (λ y. cut_front f y) q ∙ r in
        let n : 1 ≤ length (cut_back b (cut_front f row)) = rw e (some_front f p.0 kept p.2) in
        let k = there (λ y. cut_back b y) (back_nil b) (cut_front f row) n in (
          cut_front f row,
          cut_front_lem f row g k,
          subst (λ y. CutsBack b (cut_front f row) y) e (cut_back_lem b (cut_front f row) (filled_cut_front f row g) n),
        )),
  )
