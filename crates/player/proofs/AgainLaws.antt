-- A pass that is passed over, or written whole, done again by arithmetic or by copying: what playing its row would leave.
use Rattle.std.proofs.Common.{◌≡◌, ℕ, zero, suc, ◌+◌, ◌-◌, ◌*◌, ◌<◌, ◌≤◌, List, [], ◌∷◌, map, length, take, sym, refl, ◌∙◌, subst, append-nil, arith}
use Rattle.std.proofs.Common.{drop_of_length-le, take_all}
use lib.Seq.{sets, take-nil}
use Rattle.songcode.specs.Lists.{times}
use Rattle.songcode.specs.Answer.Playing.{keep}
use Rattle.songcode.specs.Description.Performance.{total}
use Rattle.songcode.proofs.ListLaws.{times_length}
use Rattle.songcode.proofs.TurnedRows.{total_append}
use Rattle.player.specs.declared.pens.Pen.{Pen}
use Rattle.player.specs.Page.{Page, Fine, play, page}
use Rattle.player.specs.Windows.{window, flat, heads}
use Rattle.player.specs.Again.{Took, Skips, Copies, skipped_of, copied_of, copy_of, same, later}
use Rattle.player.proofs.ContentLaws.{Done, played}
use Rattle.player.proofs.WindowLaws.{total_window, window_large, length_flat, length_heads}
use Rattle.player.proofs.CopyLaws.{sets_again, map_same, heads_later}

-- Rows of which every beat is passed over.
window_passed : (s n : ℕ) (row : List (List ℕ)) → total row ≤ s → window s n row ≡ []
unfolding window total keep
window_passed s n [] h = refl
window_passed s n (x ∷ xs) h =
    rw (drop_of_length-le x {i = s} (omega arith), take-nil {A = ℕ} n) (window_passed (s - length x) (n - (length x - s)) xs (omega arith))

total_times : (k : ℕ) (row : List (List ℕ)) → total (times k row) ≡ k * total row
unfolding times total
total_times zero row = omega arith
total_times (suc k) row = let h = total_times k row in rw (total_append row (times k row)) (omega arith)

page_equal : (g h : Page) → g.pen.base ≡ h.pen.base → g.pen.todo ≡ h.pen.todo → g.pen.skip ≡ h.pen.skip
    → g.pen.left ≡ h.pen.left → g.pen.m ≡ h.pen.m → g.pen.b ≡ h.pen.b → g.ms ≡ h.ms → g.bs ≡ h.bs → g ≡ h
page_equal g h a b c d e f i j = same_fields _ _ _ _ _ _ _ _ _ _ _ _ _ _ _ _ a b c d e f i j
  where
    same_fields : (base base' todo todo' skip skip' left left' m m' b b' : ℕ) (ms ms' bs bs' : List ℕ) → base ≡ base' → todo ≡ todo'
        → skip ≡ skip' → left ≡ left' → m ≡ m' → b ≡ b' → ms ≡ ms' → bs ≡ bs'
        → page (record { base = base; todo = todo; skip = skip; left = left; m = m; b = b }) ms bs
        ≡ page (record { base = base'; todo = todo'; skip = skip'; left = left'; m = m'; b = b' }) ms' bs'
    same_fields base base' todo todo' skip skip' left left' m m' b b' ms ms' bs bs' p q r s t u v w = rw (p, q, r, s, t, u, v, w)

-- The pass that took the pen.
took_done : (row : List (List ℕ)) (p q : Pen) (ms bs : List ℕ) (t : Took row p (page q ms bs)) → Done (page p t.ms_before t.bs_before) (page q ms bs) row
took_done row p q ms bs t = let g : Page = page p t.ms_before t.bs_before in subst (λ (h : Page). Done g h row) (sym t.pass) (played row g)

pub took_onward : (row : List (List ℕ)) (p q : Pen) (ms bs : List ℕ) → Took row p (page q ms bs) → (p.m ≤ q.m) × (p.b ≤ q.b)
took_onward row p q ms bs t = let d = took_done row p q ms bs t in (omega (arith, d.m), omega (arith, d.b))

-- It ended before the last measure, so it looked at the whole row.
whole_row : (row : List (List ℕ)) (p q : Pen) (ms bs : List ℕ) → Took row p (page q ms bs) → 1 ≤ q.todo → 1 ≤ q.skip + q.left
    → (take p.todo row ≡ row) × (p.todo - q.todo ≡ length row)
whole_row row p q ms bs t h some = let e = (took_done row p q ms bs t).todo some in (take_all p.todo row (omega arith), omega arith)

passed_beats : (row : List (List ℕ)) (p q : Pen) (ms bs : List ℕ) → Took row p (page q ms bs) → 1 ≤ q.todo → 1 ≤ q.skip → p.skip - q.skip ≡ total row
passed_beats row p q ms bs t h k =
    let d = took_done row p q ms bs t in
    let e : q.skip ≡ p.skip - total row = rw (whole_row row p q ms bs t h (omega arith)).0 at d.skip in
    omega arith

-- A row with no more measures and beats than are to be passed over moves the pen alone.
row_passed : (row : List (List ℕ)) (q r : Pen) (ms bs : List ℕ) → length row ≤ q.todo → total row < q.skip → r.base ≡ q.base
    → r.todo ≡ q.todo - length row → r.skip ≡ q.skip - total row → r.left ≡ q.left → r.m ≡ q.m → r.b ≡ q.b
    → page r ms bs ≡ play row (page q ms bs)
unfolding total heads flat
row_passed row q r ms bs h k a b c d e f =
    let n = played row (page q ms bs) in
    let all : take q.todo row ≡ row = take_all q.todo row h in
    let w : window q.skip q.left (take q.todo row) ≡ [] = rw all (window_passed q.skip q.left row (omega arith)) in
    let s : (play row (page q ms bs)).pen.skip ≡ q.skip - total row = rw all at n.skip in
    let l : (play row (page q ms bs)).pen.left ≡ q.left - (total row - q.skip) = rw all at n.left in
    let m : (play row (page q ms bs)).pen.m ≡ q.m + 0 = rw w at n.m in
    let o : (play row (page q ms bs)).pen.b ≡ q.b + 0 = rw w at n.b in
    let x : (play row (page q ms bs)).ms ≡ ms = rw w at n.ms in
    let y : (play row (page q ms bs)).bs ≡ bs = rw w at n.bs in
    page_equal (page r ms bs) (play row (page q ms bs)) (a ∙ sym n.base) (b ∙ sym (n.todo (omega arith))) (c ∙ sym s) (omega arith) (omega arith)
    (omega arith) (sym x) (sym y)

pub skipped_again : (row : List (List ℕ)) (p q r : Pen) (k : ℕ) (ms bs : List ℕ) → Took row p (page q ms bs) → Skips p q k → r ≡ skipped_of p q k
    → page r ms bs ≡ play (times k row) (page q ms bs)
unfolding skipped_of
skipped_again row p q r k ms bs t s e =
    let some = s.some_skip in
    let n = (whole_row row p q ms bs t s.some_todo (omega arith)).1 in
    let b = passed_beats row p q ms bs t s.some_todo s.some_skip in
    let l : length (times k row) ≡ k * (p.todo - q.todo) = rw n (times_length k row) in
    let m : total (times k row) ≡ k * (p.skip - q.skip) = rw b (total_times k row) in
    let i = s.measures in
    let j = s.beats in
    rw e (row_passed (times k row) q (skipped_of p q k) ms bs (omega arith) (omega arith) refl (rw l) (rw m) refl refl refl)

pub skipped_once : (row : List (List ℕ)) (p q r : Pen) (ms bs : List ℕ) → Took row p (page q ms bs) → Skips p q 1 → r ≡ skipped_of p q 1
    → page r ms bs ≡ play row (page q ms bs)
unfolding times
skipped_once row p q r ms bs t s e = rw append-nil at (skipped_again row p q r 1 ms bs t s e)

-- A pass that was written whole.
record Written (row : List (List ℕ)) (p q : Pen) (ms bs ms_before bs_before : List ℕ) : Type 0 where
  base : q.base ≡ p.base
  measures : p.todo - q.todo ≡ length row
  skip : q.skip ≡ 0
  beats : q.b - p.b ≡ total row
  fits : total row ≤ p.left
  m : q.m ≡ p.m + length (window 0 p.left row)
  b : q.b ≡ p.b + total row
  words : ms ≡ sets ms_before p.m (heads (p.base + p.b) (window 0 p.left row))
  sounds : bs ≡ sets bs_before p.b (flat (window 0 p.left row))

written : (row : List (List ℕ)) (p q : Pen) (ms bs : List ℕ) (t : Took row p (page q ms bs)) → Copies p q → Written row p q ms bs t.ms_before t.bs_before
written row p q ms bs t c =
    let d = took_done row p q ms bs t in
    let some = c.some_left in
    let a = whole_row row p q ms bs t c.some_todo (omega arith) in
    let z = c.no_skip in
    let s : q.skip ≡ 0 - total row = rw (a.0, z) at d.skip in
    let l : q.left ≡ p.left - (total row - 0) = rw (a.0, z) at d.left in
    let m : q.m ≡ p.m + length (window 0 p.left row) = rw (a.0, z) at d.m in
    let b : q.b ≡ p.b + total (window 0 p.left row) = rw (a.0, z) at d.b in
    let w = total_window 0 p.left row in
    record {
      base = d.base;
      measures = a.1;
      skip = omega arith;
      beats = omega arith;
      fits = omega arith;
      m = m;
      b = omega arith;
      words = rw (a.0, z) at d.ms;
      sounds = rw (a.0, z) at d.bs;
    }

pub copied_again : (row : List (List ℕ)) (p q r : Pen) (ms bs ms' bs' : List ℕ) → Fine q → Took row p (page q ms bs) → Copies p q → r ≡ copied_of p q
    → ms' ≡ copy_of (later ((q.b - p.b) * 2048)) ms p.m q.m → bs' ≡ copy_of same bs p.b q.b → page r ms' bs' ≡ play row (page q ms bs)
unfolding copied_of
copied_again row p q r ms bs ms' bs' f t c e g h =
    let x = written row p q ms bs t c in
    let n = played row (page q ms bs) in
    let w = window 0 p.left row in
    let d = q.b - p.b in
    let x-measures = x.measures in
    let x-beats = x.beats in
    let x-m = x.m in
    let x-b = x.b in
    let x-base = x.base in
    let c-measures = c.measures in
    let c-beats = c.beats in
    let fits = f.fits in
    let all : take q.todo row ≡ row = take_all q.todo row (omega arith) in
    let v : window q.skip q.left (take q.todo row) ≡ w = rw (all, x.skip) (window_large q.left p.left row (omega arith) x.fits) in
    let tw : total w ≡ total row = let o = total_window 0 p.left row in
    let i = x.fits in omega arith in
    let s : (play row (page q ms bs)).pen.skip ≡ q.skip - total row = rw all at n.skip in
    let l : (play row (page q ms bs)).pen.left ≡ q.left - (total row - q.skip) = rw all at n.left in
    let m : (play row (page q ms bs)).pen.m ≡ q.m + length w = rw v at n.m in
    let b : (play row (page q ms bs)).pen.b ≡ q.b + total w = rw v at n.b in
    let y : (play row (page q ms bs)).ms ≡ sets ms q.m (heads (q.base + q.b) w) = rw v at n.ms in
    let z : (play row (page q ms bs)).bs ≡ sets bs q.b (flat w) = rw v at n.bs in
    let x-skip = x.skip in
    let first : p.base + p.b + d ≡ q.base + q.b = omega arith in
    let hl : map (later (d * 2048)) (heads (p.base + p.b) w) ≡ heads (q.base + q.b) w = rw first at (heads_later d (p.base + p.b) w (omega arith)) in
    let a1 = sets_again (later (d * 2048)) t.ms_before (heads (p.base + p.b) w) p.m q.m (rw (length_heads (p.base + p.b) w) x.m) in
    let a2 = sets_again same t.bs_before (flat w) p.b q.b (rw (length_flat w) (omega arith)) in
    let y' : copy_of (later (d * 2048)) ms p.m q.m ≡ sets ms q.m (heads (q.base + q.b) w) = rw (← x.words, hl) at a1 in
    let z' : copy_of same bs p.b q.b ≡ sets bs q.b (flat w) = rw (← x.sounds, map_same (flat w)) at a2 in
    let n-todo = n.todo (omega arith) in
    rw e
    (page_equal (page (copied_of p q) ms' bs') (play row (page q ms bs)) (sym n.base) (omega arith) (omega arith) (omega arith) (omega arith) (omega arith)
    (g ∙ y' ∙ sym y)
    (h ∙ z' ∙ sym z))
