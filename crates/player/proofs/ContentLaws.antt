-- What a played row leaves: the words of the window in both tables, and the pen's numbers.
use Rattle.std.proofs.Common.{◌≡◌, ℕ, zero, suc, ◌+◌, ◌-◌, ◌≤◌, Bool, true, false, eqb, leb, List, [], ◌∷◌, length, take, drop, set, sym, refl, ◌∙◌, subst}
use Rattle.std.proofs.Common.{add-one, arith, eq-eqb, ne_eqb, leb-false, leb-true}
use lib.Seq.{sets, take-nil, drop-nil}
use Rattle.songcode.specs.Answer.Playing.{keep}
use Rattle.songcode.specs.Description.Performance.{total}
use Rattle.songcode.proofs.ListLaws.{by_cases}
use Rattle.songcode.proofs.MemoryLaws.{sets_append}
use Rattle.player.specs.Windows.{window, flat, heads}
use Rattle.player.specs.declared.pens.Pen.{Pen}
use Rattle.player.proofs.PageLaws.{measure_none, play_none, goes_on, rests}
use Rattle.player.proofs.WindowLaws.{window_none}
use Rattle.player.specs.Page.{Page, Ink, beat_by, beat_of, inked, close_by, closed, on_page, rested, looked_at, measure_by, measure_of, play}

abbrev pub pen_of : ℕ → ℕ → ℕ → ℕ → ℕ → ℕ → Pen
pen_of base todo s l m b = record { base = base; todo = todo; skip = s; left = l; m = m; b = b }

abbrev pub ink_of : Pen → List ℕ → Ink
ink_of p bs = record { pen = p; bs = bs }

abbrev page_of : Pen → List ℕ → List ℕ → Page
page_of p ms bs = record { pen = p; ms = ms; bs = bs }

pub ink_eq : (base todo m : ℕ) (s s' l l' b b' : ℕ) (bs bs' : List ℕ) → s ≡ s' → l ≡ l' → b ≡ b' → bs ≡ bs'
    → ink_of (pen_of base todo s l m b) bs ≡ ink_of (pen_of base todo s' l' m b') bs'
ink_eq base todo m s s' l l' b b' bs bs' e f g h = rw (e, f, g, h)

pub inked_is : (x : List ℕ) (base todo s l m b : ℕ) (bs : List ℕ)
    → inked x (ink_of (pen_of base todo s l m b) bs) ≡ ink_of
    (pen_of base todo (s - length x) (l - (length x - s)) m (b + length (take l (drop s x)))) (sets bs b (take l (drop s x)))
unfolding inked beat_of beat_by
inked_is [] base todo s l m b bs =
    rw (drop-nil {A = ℕ} s, take-nil {A = ℕ} l) (ink_eq base todo m _ _ _ _ _ _ bs bs (omega arith) (omega arith) (omega arith) refl)
inked_is (w ∷ x) base todo (suc s) l m b bs =
    inked_is x base todo s l m b bs ∙ ink_eq base todo m _ _ _ _ _ _ _ _ (omega arith) (omega arith) refl refl
inked_is (w ∷ x) base todo zero zero m b bs =
    inked_is x base todo 0 0 m b bs ∙ ink_eq base todo m _ _ _ _ _ _ _ _ (omega arith) (omega arith) refl refl
inked_is (w ∷ x) base todo zero (suc l) m b bs =
    inked_is x base todo 0 l m (b + 1) (set bs b w) ∙ ink_eq base todo m _ _ _ _ _ _ _ _ (omega arith) (omega arith) (omega arith) (rw (add-one b))

-- after the piece y of a measure, the words of y in front of those of the rest W
pub Piece : ℕ → ℕ → ℕ → List ℕ → List ℕ → List ℕ → Page → Type 0
Piece base m b ms bs y g =
    (r : List (List ℕ)) → (m + length (keep y r) ≡ g.pen.m + length r) × (b + total (keep y r) ≡ g.pen.b + total r)
    × (sets ms m (heads (base + b) (keep y r)) ≡ sets g.ms g.pen.m (heads (base + g.pen.b) r))
    × (sets bs b (flat (keep y r)) ≡ sets g.bs g.pen.b (flat r))

piece : (y : List ℕ) (base todo s l m b : ℕ) (ms bs : List ℕ)
    → Piece base m b ms bs y (closed b (page_of (pen_of base todo s l m (b + length y)) ms (sets bs b y)))
unfolding Piece keep closed close_by total heads flat
piece [] base todo s l m b ms bs r =
    let z : b + 0 ≡ b = omega arith in
    let e : eqb b (b + 0) ≡ true = eq-eqb b (b + 0) (sym z) in
    rw (e) (refl, omega arith, rw z, rw z)
piece (w ∷ y) base todo s l m b ms bs r =
    let n : (b ≡ b + suc (length y) → ⊥) = λ q. omega arith in
    let e : eqb b (b + suc (length y)) ≡ false = ne_eqb b (b + suc (length y)) n in
    let k : b + suc (length y) - b ≡ suc (length y) = omega arith in
    let o : base + b + suc (length y) ≡ base + (b + suc (length y)) = omega arith in
    rw (e) (omega arith, omega arith, rw (k, o, add-one m), sets_append bs b (w ∷ y) (flat r))

record Kept (g h : Page) : Type 0 where
  base : h.pen.base ≡ g.pen.base
  todo : h.pen.todo ≡ g.pen.todo
  skip : h.pen.skip ≡ g.pen.skip
  left : h.pen.left ≡ g.pen.left

kept_by : (t : Bool) (from : ℕ) (g : Page) → Kept g (close_by t from g)
unfolding close_by
kept_by true from g = record { base = refl; todo = refl; skip = refl; left = refl }
kept_by false from g = record { base = refl; todo = refl; skip = refl; left = refl }

record Stepped (x : List ℕ) (g h : Page) : Type 0 where
  base : h.pen.base ≡ g.pen.base
  todo : h.pen.todo ≡ g.pen.todo - 1
  skip : h.pen.skip ≡ g.pen.skip - length x
  left : h.pen.left ≡ g.pen.left - (length x - g.pen.skip)
  piece_of : Piece g.pen.base g.pen.m g.pen.b g.ms g.bs (take g.pen.left (drop g.pen.skip x)) h

stepped : (x : List ℕ) (base t s l m b : ℕ) (ms bs : List ℕ)
    → Stepped x (page_of (pen_of base (suc t) s l m b) ms bs) (looked_at t x (page_of (pen_of base (suc t) s l m b) ms bs))
unfolding looked_at on_page closed
stepped x base t s l m b ms bs =
    let y = take l (drop s x) in
    let h : Page = page_of (pen_of base t (s - length x) (l - (length x - s)) m (b + length y)) ms (sets bs b y) in
    let k = kept_by (eqb b (b + length y)) b h in
    let z : suc t - 1 ≡ t = omega arith in
    rw (inked_is x base t s l m b bs) (record {
      base = k.base;
      todo = k.todo ∙ sym z;
      skip = k.skip;
      left = k.left;
      piece_of =
          piece y base t (s - length x) (l - (length x - s)) m b ms bs;
    })

measure_step : (x : List ℕ) (g : Page) (t : ℕ) → g.pen.todo ≡ suc t → Stepped x g (looked_at t x g) × (measure_of x g ≡ rested (looked_at t x g))
unfolding measure_of measure_by looked_at
measure_step x g t e =
    let s = stepped x g.pen.base t g.pen.skip g.pen.left g.pen.m g.pen.b g.ms g.bs in (
      subst (λ n. Stepped x (page_of (pen_of g.pen.base n g.pen.skip g.pen.left g.pen.m g.pen.b) g.ms g.bs) (looked_at t x g))
          (sym e) s,
      rw e,
    )

-- the whole row
pub record Done (g h : Page) (row : List (List ℕ)) : Type 0 where
  pub base : h.pen.base ≡ g.pen.base
  pub todo : 1 ≤ h.pen.skip + h.pen.left → h.pen.todo ≡ g.pen.todo - length row
  pub skip : h.pen.skip ≡ g.pen.skip - total (take g.pen.todo row)
  pub left : h.pen.left ≡ g.pen.left - (total (take g.pen.todo row) - g.pen.skip)
  pub m : h.pen.m ≡ g.pen.m + length (window g.pen.skip g.pen.left (take g.pen.todo row))
  pub b : h.pen.b ≡ g.pen.b + total (window g.pen.skip g.pen.left (take g.pen.todo row))
  pub ms : h.ms ≡ sets g.ms g.pen.m (heads (g.pen.base + g.pen.b) (window g.pen.skip g.pen.left (take g.pen.todo row)))
  pub bs : h.bs ≡ sets g.bs g.pen.b (flat (window g.pen.skip g.pen.left (take g.pen.todo row)))

done_none : (g : Page) (row : List (List ℕ)) (n : ℕ) → take g.pen.todo row ≡ [] → g.pen.todo ≡ g.pen.todo - length row → Done g g row
unfolding window heads flat total
done_none g row n e k = record {
  base = refl;
  todo = λ _. k;
  skip = rw e (omega arith);
  left = rw e (omega arith);
  m = rw e (omega arith);
  b = rw e
      (omega arith);
  ms = rw e;
  bs = rw e;
}

-- What is to be passed over and to be written behind n beats, and then behind t more.
skip_after : (s s' n t : ℕ) → s ≡ s' - n → s - t ≡ s' - (n + t)
skip_after s s' n t e = omega arith

left_after : (s s' l l' n t : ℕ) → s ≡ s' - n → l ≡ l' - (n - s') → l - (t - s) ≡ l' - (n + t - s')
left_after s s' l l' n t e f =
    by_cases (leb n s')
    (λ q. let h = leb-true n s' q in
    let a : l ≡ l' = omega arith in
    let b : t - s ≡ n + t - s' = omega arith in rw (a, b))
    (λ q. let h = leb-false n s' q in
    let a : s ≡ 0 = omega arith in
    let b : n + t - s' ≡ n - s' + t = omega arith in rw (a, b, f) (both l' (n - s') t))
  where
    both : (l n t : ℕ) → l - n - (t - 0) ≡ l - (n + t)
    both l n t = omega arith

done_cons : (x : List ℕ) (xs : List (List ℕ)) (t : ℕ) (g k h : Page) → g.pen.todo ≡ suc t → Stepped x g k → Done k h xs → Done g h (x ∷ xs)
unfolding window total Piece
done_cons x xs t g k h e p d =
    let q : k.pen.todo ≡ t = p.todo ∙ (rw e (omega arith)) in
    let w = window (g.pen.skip - length x) (g.pen.left - (length x - g.pen.skip)) (take t xs) in
    let v : window k.pen.skip k.pen.left (take k.pen.todo xs) ≡ w = rw (p.skip, p.left, q) in
    let o = p.piece_of w in
    let dm : h.pen.m ≡ k.pen.m + length w = rw v at d.m in
    let db : h.pen.b ≡ k.pen.b + total w = rw v at d.b in
    let dms : h.ms ≡ sets k.ms k.pen.m (heads (g.pen.base + k.pen.b) w) = rw (v, p.base) at d.ms in
    let dbs : h.bs ≡ sets k.bs k.pen.b (flat w) = rw v at d.bs in
    let ds : h.pen.skip ≡ k.pen.skip - total (take t xs) = rw q at d.skip in
    let dl : h.pen.left ≡ k.pen.left - (total (take t xs) - k.pen.skip) = rw q at d.left in
    let t2 = p.todo in
    record {
      base = d.base ∙ p.base;
      todo = λ some. let t1 = d.todo some in omega arith;
      skip = rw e (ds ∙ skip_after _ _ (length x) (total (take t xs)) p.skip);
      left = rw e (dl ∙ left_after _ _ _ _ (length x) (total (take t xs)) p.skip p.left);
      m = rw e (dm ∙ sym o.0);
      b = rw e (db ∙ sym o.1);
      ms = rw e (dms ∙ sym o.2);
      bs = rw e (dbs ∙ sym o.3);
    }

-- A pen that rests does what it would have done.
module _ (g h : Page) (row : List (List ℕ)) where
  done_resting : g.pen.skip ≤ 0 → g.pen.left ≤ 0
      → Done (page_of (pen_of g.pen.base 0 g.pen.skip g.pen.left g.pen.m g.pen.b) g.ms g.bs) h row → Done g h row
  unfolding heads flat total
  done_resting s l d =
      let s0 : g.pen.skip ≡ 0 = omega arith in
      let l0 : g.pen.left ≡ 0 = omega arith in
      let w : window g.pen.skip g.pen.left (take g.pen.todo row) ≡ [] = rw (s0, l0) (window_none 0 (take g.pen.todo row)) in
      let v : window g.pen.skip g.pen.left (take 0 row) ≡ [] = rw (s0, l0) (window_none 0 (take 0 row)) in
      let ds = d.skip in
      let dl = d.left in
      let dm : h.pen.m ≡ g.pen.m + 0 = rw v at d.m in
      let db : h.pen.b ≡ g.pen.b + 0 = rw v at d.b in
      let dms : h.ms ≡ g.ms = rw v at d.ms in
      let dbs : h.bs ≡ g.bs = rw v at d.bs in
      record {
        base = d.base;
        todo = λ some. absurd (omega arith);
        skip = omega arith;
        left = omega arith;
        m = rw w (omega arith);
        b = rw w (omega arith);
        ms = rw w dms;
        bs = rw w dbs;
      }

  done_rested : Done (rested g) h row → Done g h row
  unfolding rested
  done_rested d =
      by_cases (leb (g.pen.skip + g.pen.left) 0)
      (λ q.
      let k = leb-true (g.pen.skip + g.pen.left) 0 q in
      let s : g.pen.skip ≤ 0 = omega arith in
      let l : g.pen.left ≤ 0 = omega arith in
      done_resting s l (subst (λ (p : Pen). Done (page_of p g.ms g.bs) h row) (sym (rests g.pen s l)) d))
      (λ q. let k = leb-false (g.pen.skip + g.pen.left) 0 q in subst (λ (p : Pen). Done (page_of p g.ms g.bs) h row) (sym (goes_on g.pen k)) d)

pub played : (row : List (List ℕ)) (g : Page) → Done g (play row g) row
unfolding play
played [] g = done_none g [] 0 (take-nil {A = List ℕ} g.pen.todo) (omega arith)
played (x ∷ xs) g = go (played xs (measure_of x g)) g.pen.todo refl
  where
    go : Done (measure_of x g) (play xs (measure_of x g)) xs → (t : ℕ) → g.pen.todo ≡ t → Done g (play xs (measure_of x g)) (x ∷ xs)
    go d zero e = rw (← measure_none x g e, play_none xs g e) (done_none g (x ∷ xs) 0 (rw e) (rw e (omega arith)))
    go d (suc t) e =
        let k = measure_step x g t e in
        done_cons x xs t g (looked_at t x g) (play xs (measure_of x g)) e k.0
        (done_rested (looked_at t x g) (play xs (measure_of x g)) xs (subst (λ (i : Page). Done i (play xs (measure_of x g)) xs) k.1 d))
