-- Laws of the page, one for each way through the code: beats, sounds, measures, rows.
use Rattle.std.proofs.Common.{◌≡◌, ℕ, zero, suc, ◌+◌, ◌-◌, ◌<◌, ◌≤◌, Bool, true, false, eqb, List, [], ◌∷◌, ◌++◌, length, set, replicate, sym, refl, ap, ◌∙◌}
use Rattle.std.proofs.Common.{subst, arith, eq-eqb, ne_eqb}
use Rattle.songcode.specs.Answer.Tables.{measure_word}
use Rattle.player.specs.Signs.{lasting_of}
use Rattle.player.specs.declared.pens.Pen.{Pen}
use Rattle.player.specs.Page.{Page, Ink, Fine, beat_by, beat_of, inked, close_by, closed, on_page, rest_by, rest_of, rested, looked_at, measure_by}
use Rattle.player.specs.Page.{measure_of, play}

by_skip : (s l w : ℕ) (g : Ink) → 0 < s → record {
  pen =
      record { base = g.pen.base; todo = g.pen.todo; skip = s - 1; left = g.pen.left; m = g.pen.m; b = g.pen.b };
  bs = g.bs;
}
    ≡ beat_by s l w g
unfolding beat_by
by_skip zero l w g h = let z : ⊥ = omega arith in absurd z
by_skip (suc s) l w g h = let e : suc s - 1 ≡ s = omega arith in rw e

by_over : (s l w : ℕ) (g : Ink) → s ≤ 0 → l ≡ 0 → g ≡ beat_by s l w g
unfolding beat_by
by_over (suc s) l w g h k = let z : ⊥ = omega arith in absurd z
by_over zero (suc l) w g h k = let z : ⊥ = omega arith in absurd z
by_over zero zero w g h k = refl

by_write : (s l w : ℕ) (g : Ink) → s ≤ 0 → (l ≡ 0 → ⊥)
    → record {
      pen = record {
        base = g.pen.base;
        todo = g.pen.todo;
        skip = g.pen.skip;
        left = l - 1;
        m = g.pen.m;
        b =
            g.pen.b + 1;
      };
      bs = set g.bs g.pen.b w;
    } ≡ beat_by s l w g
unfolding beat_by
by_write (suc s) l w g h k = let z : ⊥ = omega arith in absurd z
by_write zero zero w g h k = absurd (k refl)
by_write zero (suc l) w g h k = let e : suc l - 1 ≡ l = omega arith in rw e

pub beat_skip : (w : ℕ) (p : Pen) (bs : List ℕ) → 0 < p.skip
    → ◌≡◌ {A = Ink} (record {
      pen = record { base = p.base; todo = p.todo; skip = p.skip - 1; left = p.left; m = p.m; b = p.b };
      bs =
          bs;
    }) (beat_of w (record { pen = p; bs = bs }))
unfolding beat_of
beat_skip w p bs h = by_skip p.skip p.left w (record { pen = p; bs = bs }) h

pub beat_over : (w : ℕ) (p : Pen) (bs : List ℕ) → p.skip ≤ 0 → p.left ≡ 0
    → ◌≡◌ {A = Ink} (record { pen = p; bs = bs }) (beat_of w (record { pen = p; bs = bs }))
unfolding beat_of
beat_over w p bs h k = by_over p.skip p.left w (record { pen = p; bs = bs }) h k

pub beat_write : (w : ℕ) (p : Pen) (bs bs' : List ℕ) → p.skip ≤ 0 → (p.left ≡ 0 → ⊥) → bs' ≡ set bs p.b w
    → ◌≡◌ {A = Ink} (record {
      pen = record { base = p.base; todo = p.todo; skip = p.skip; left = p.left - 1; m = p.m; b = p.b + 1 };
      bs = bs';
    }) (beat_of w (record { pen = p; bs = bs }))
unfolding beat_of
beat_write w p bs bs' h k e = rw e (by_write p.skip p.left w (record { pen = p; bs = bs }) h k)

-- a beat keeps the pen fine, and moves b by one at most
pub record Moved (p q : Pen) (n : ℕ) : Type 0 where
  pub fine : Fine q
  pub m_same : q.m ≡ p.m
  pub base_same : q.base ≡ p.base
  pub b_up : p.b ≤ q.b
  pub b_near : q.b ≤ p.b + n

moved_by : (s l w : ℕ) (g : Ink) → s ≡ g.pen.skip → l ≡ g.pen.left → Fine g.pen → Moved g.pen (beat_by s l w g).pen 1
unfolding beat_by
moved_by (suc s) l w g e k f =
    record { fine = record { few = f.few; fits = f.fits }; m_same = refl; base_same = refl; b_up = omega arith; b_near = omega arith }
moved_by zero zero w g e k f = record { fine = f; m_same = refl; base_same = refl; b_up = omega arith; b_near = omega arith }
moved_by zero (suc l) w g e k f =
    record {
      fine = record { few = omega (arith, f.few); fits = omega (arith, f.fits) };
      m_same = refl;
      base_same = refl;
      b_up =
          omega arith;
      b_near = omega arith;
    }

pub moved_beat : (w : ℕ) (g : Ink) → Fine g.pen → Moved g.pen (beat_of w g).pen 1
unfolding beat_of
moved_beat w g f = moved_by g.pen.skip g.pen.left w g refl refl f

pub moved_inked : (x : List ℕ) (g : Ink) → Fine g.pen → Moved g.pen (inked x g).pen (length x)
unfolding inked
moved_inked [] g f = record { fine = f; m_same = refl; base_same = refl; b_up = omega arith; b_near = omega arith }
moved_inked (w ∷ x) g f =
    let h = moved_beat w g f in
    let k = moved_inked x (beat_of w g) h.fine in
    record {
      fine = k.fine;
      m_same = k.m_same ∙ h.m_same;
      base_same = k.base_same ∙ h.base_same;
      b_up =
          omega (arith, h.b_up, k.b_up);
      b_near = omega (arith, h.b_near, k.b_near);
    }

-- closing
pub close_none : (from : ℕ) (p : Pen) (ms bs : List ℕ) → from ≡ p.b
    → ◌≡◌ {A = Page} (record { pen = p; ms = ms; bs = bs }) (closed from (record { pen = p; ms = ms; bs = bs }))
unfolding closed close_by
close_none from p ms bs e = simp (eq-eqb from p.b e)

pub close_some : (from : ℕ) (p : Pen) (ms ms' bs : List ℕ) → (from ≡ p.b → ⊥)
    → ms' ≡ set ms p.m (measure_word (p.base + from) (p.b - from))
    → ◌≡◌ {A = Page} (record {
      pen = record { base = p.base; todo = p.todo; skip = p.skip; left = p.left; m = p.m + 1; b = p.b };
      ms =
          ms';
      bs = bs;
    }) (closed from (record { pen = p; ms = ms; bs = bs }))
unfolding closed close_by
close_some from p ms ms' bs n e = rw e (simp (ne_eqb from p.b n))

-- n beats of one word: one turn, and the end
pub fill_next : (n i w : ℕ) (g h goal : Ink) → i < n → g ≡ beat_of w h → inked (replicate (n - i) w) h ≡ goal → inked (replicate (n - (i + 1)) w) g ≡ goal
unfolding inked
fill_next n i w g h goal lt e k =
    let s : n - i ≡ suc (n - (i + 1)) = omega arith in
    rw (e) (rw s at k)

pub fill_end : (n i w : ℕ) (g goal : Ink) → n ≤ i → inked (replicate (n - i) w) g ≡ goal → g ≡ goal
unfolding inked
fill_end n i w g goal le k =
    let s : n - i ≡ 0 = omega arith in
    rw s at k

pub fine_of : {g h : Ink} → g ≡ h → Fine h.pen → Fine g.pen
fine_of e f = rw e f

-- Beats behind beats.
pub inked_append : (x y : List ℕ) (g : Ink) → inked (x ++ y) g ≡ inked y (inked x g)
unfolding inked
inked_append [] y g = refl
inked_append (w ∷ x) y g = inked_append x y (beat_of w g)

-- A sound: none of it, or its head and the rest.
pub lasting_none : (share v : ℕ) (g : Ink) → share ≡ 0 → g ≡ inked (lasting_of share v) g
unfolding lasting_of inked
lasting_none zero v g e = refl
lasting_none (suc k) v g e = let z : ⊥ = omega arith in absurd z

pub lasting_some : (share v : ℕ) (g h i : Ink) → (share ≡ 0 → ⊥) → h ≡ beat_of (v + 16) g → i ≡ inked (replicate (share - 1) v) h
    → i ≡ inked (lasting_of share v) g
unfolding lasting_of inked
lasting_some zero v g h i n e k = absurd (n refl)
lasting_some (suc s) v g h i n e k = let z : suc s - 1 ≡ s = omega arith in k ∙ rw (z, e)

-- What a measure's beats leave, for its closing.
pub measured : (x : List ℕ) (p q : Pen) (bs bs' : List ℕ) → Fine p → length x ≤ 32
    → ◌≡◌ {A = Ink} (record { pen = q; bs = bs' }) (inked x (record { pen = p; bs = bs }))
    → Fine q × (q.m ≤ p.b) × (p.b ≤ q.b) × (q.b ≤ p.b + 63)
measured x p q bs bs' f k e =
    let g : Ink = record { pen = p; bs = bs } in
    let o = moved_inked x g f in
    let a : Moved p q (length x) = subst (λ (i : Ink). Moved p i.pen (length x)) (sym e) o in
    (a.fine, omega (arith, a.m_same, f.few), a.b_up, omega (arith, a.b_near))

-- Beats that are all passed over.
pub inked_pass : (x : List ℕ) (p : Pen) (bs : List ℕ) → length x ≤ p.skip
    → ◌≡◌ {A = Ink} (inked x (record { pen = p; bs = bs }))
    (record { pen = record { base = p.base; todo = p.todo; skip = p.skip - length x; left = p.left; m = p.m; b = p.b }; bs = bs })
unfolding inked
inked_pass [] p bs h = let e : p.skip - 0 ≡ p.skip = omega arith in rw e
inked_pass (w ∷ x) p bs h =
    let e : p.skip - 1 - length x ≡ p.skip - suc (length x) = omega arith in
    rw (← beat_skip w p bs (omega arith)) (inked_pass x
    (record { base = p.base; todo = p.todo; skip = p.skip - 1; left = p.left; m = p.m; b = p.b }) bs (omega arith) ∙ rw e)

none_by : (t : ℕ) (x : List ℕ) (g : Page) → t ≡ 0 → g ≡ measure_by t x g
unfolding measure_by
none_by zero x g e = refl
none_by (suc t) x g e = let z : ⊥ = omega arith in absurd z

pub measure_none : (x : List ℕ) (g : Page) → g.pen.todo ≡ 0 → g ≡ measure_of x g
unfolding measure_of
measure_none x g e = none_by g.pen.todo x g e

some_by : (t : ℕ) (x : List ℕ) (p q r : Pen) (ms ms' bs bs' : List ℕ) → (t ≡ 0 → ⊥)
    → ◌≡◌ {A = Ink} (record { pen = q; bs = bs' }) (inked x
    (record { pen = record { base = p.base; todo = t - 1; skip = p.skip; left = p.left; m = p.m; b = p.b }; bs = bs }))
    → ◌≡◌ {A = Page} (record { pen = r; ms = ms'; bs = bs' }) (closed p.b (record { pen = q; ms = ms; bs = bs' }))
    → ◌≡◌ {A = Page} (record { pen = rest_of r; ms = ms'; bs = bs' }) (measure_by t x (record { pen = p; ms = ms; bs = bs }))
unfolding measure_by rested looked_at on_page
some_by zero x p q r ms ms' bs bs' n e k = absurd (n refl)
some_by (suc t) x p q r ms ms' bs bs' n e k =
    let z : suc t - 1 ≡ t = omega arith in
    ap (λ (g : Page). rested g) (k ∙ ap (λ (i : Ink). closed p.b (on_page i ms)) (rw z at e))

pub measure_some : (x : List ℕ) (p q r : Pen) (ms ms' bs bs' : List ℕ) → (p.todo ≡ 0 → ⊥)
    → ◌≡◌ {A = Ink} (record { pen = q; bs = bs' }) (inked x
    (record { pen = record { base = p.base; todo = p.todo - 1; skip = p.skip; left = p.left; m = p.m; b = p.b }; bs = bs }))
    → ◌≡◌ {A = Page} (record { pen = r; ms = ms'; bs = bs' }) (closed p.b (record { pen = q; ms = ms; bs = bs' }))
    → ◌≡◌ {A = Page} (record { pen = rest_of r; ms = ms'; bs = bs' }) (measure_of x (record { pen = p; ms = ms; bs = bs }))
unfolding measure_of
measure_some x p q r ms ms' bs bs' n e k = some_by p.todo x p q r ms ms' bs bs' n e k

-- A measure that is passed over as a whole.
pub measure_pass : (x : List ℕ) (p : Pen) (k : ℕ) (ms bs : List ℕ) → (p.todo ≡ 0 → ⊥) → k ≡ length x → k ≤ p.skip
    → ◌≡◌ {A = Page} (record {
      pen = rest_of
          (record { base = p.base; todo = p.todo - 1; skip = p.skip - k; left = p.left; m = p.m; b = p.b });
      ms = ms;
      bs = bs;
    })
    (measure_of x (record { pen = p; ms = ms; bs = bs }))
measure_pass x p k ms bs n e h =
    let q : Pen = record { base = p.base; todo = p.todo - 1; skip = p.skip - k; left = p.left; m = p.m; b = p.b } in
    measure_some x p q q ms ms bs bs n
    (rw e (sym (inked_pass x (record { base = p.base; todo = p.todo - 1; skip = p.skip; left = p.left; m = p.m; b = p.b }) bs (omega arith))))
    (close_none p.b q ms bs refl)

-- The pen rests, or goes on.
by_rest : (t s l : ℕ) → 0 < s + l → rest_by t s l ≡ t
unfolding rest_by
by_rest t zero zero h = absurd (omega arith)
by_rest t zero (suc l) h = refl
by_rest t (suc s) l h = refl

by_rest_none : (t s l : ℕ) → s ≤ 0 → l ≤ 0 → rest_by t s l ≡ 0
unfolding rest_by
by_rest_none t zero zero h k = refl
by_rest_none t (suc s) l h k = absurd (omega arith)
by_rest_none t zero (suc l) h k = absurd (omega arith)

pub goes_on : (p : Pen) → 0 < p.skip + p.left → p ≡ rest_of p
unfolding rest_of
goes_on p h = rw (by_rest p.todo p.skip p.left h)

pub rests : (p : Pen) → p.skip ≤ 0 → p.left ≤ 0 → record { base = p.base; todo = 0; skip = p.skip; left = p.left; m = p.m; b = p.b } ≡ rest_of p
unfolding rest_of
rests p h k = rw (by_rest_none p.todo p.skip p.left h k)

-- rows
pub play_append : (xs ys : List (List ℕ)) (g : Page) → play (xs ++ ys) g ≡ play ys (play xs g)
unfolding play
play_append [] ys g = refl
play_append (x ∷ xs) ys g = play_append xs ys (measure_of x g)

pub play_none : (xs : List (List ℕ)) (g : Page) → g.pen.todo ≡ 0 → play xs g ≡ g
unfolding play
play_none [] g e = refl
play_none (x ∷ xs) g e = rw (← measure_none x g e) (play_none xs g e)

close_fine : (t : Bool) (from : ℕ) (g : Page) → eqb from g.pen.b ≡ t → Fine g.pen → g.pen.m ≤ from → from ≤ g.pen.b → Fine (close_by t from g).pen
unfolding close_by
close_fine true from g e f h k = f
close_fine false from g e f h k =
    let n : (from ≡ g.pen.b → ⊥) = λ q. let z : true ≡ false = sym (eq-eqb from g.pen.b q) ∙ e in
    let y : ◌≡◌ {A = ℕ} 0 1 = cc in omega arith in
    let lt : from < g.pen.b = ne_lt from g.pen.b n k in
    record { few = omega (arith, f.few); fits = f.fits }
  where
    ne_lt : (a b : ℕ) → (a ≡ b → ⊥) → a ≤ b → a < b
    ne_lt a b n h = omega arith

fine_by : (t : ℕ) (x : List ℕ) (g : Page) → Fine g.pen → Fine (measure_by t x g).pen
unfolding measure_by rested rest_of looked_at closed on_page
fine_by zero x g f = f
fine_by (suc t) x g f =
    let p : Pen = record { base = g.pen.base; todo = t; skip = g.pen.skip; left = g.pen.left; m = g.pen.m; b = g.pen.b } in
    let h = moved_inked x (record { pen = p; bs = g.bs }) (record { few = f.few; fits = f.fits }) in
    let c = close_fine _ g.pen.b (on_page (inked x (record { pen = p; bs = g.bs })) g.ms) refl h.fine (omega (arith, h.m_same, f.few)) h.b_up in
    record { few = c.few; fits = c.fits }

pub fine_play : (xs : List (List ℕ)) (g : Page) → Fine g.pen → Fine (play xs g).pen
unfolding play measure_of
fine_play [] g f = f
fine_play (x ∷ xs) g f = fine_play xs (measure_of x g) (fine_by g.pen.todo x g f)

-- The pen at the beginning of a measure.
pub not_none : {n : ℕ} → (n ≡ 0 → ⊥) → 1 ≤ n
not_none {n} h = some n h
  where
    some : (n : ℕ) → (n ≡ 0 → ⊥) → 1 ≤ n
    some zero h = absurd (h refl)
    some (suc n) h = omega arith

pub fine_begun : (p r : Pen) (todo skip : ℕ) → r ≡ record { base = p.base; todo = todo; skip = skip; left = p.left; m = p.m; b = p.b } → Fine p → Fine r
fine_begun p r todo skip e f = rw e (record { few = f.few; fits = f.fits })

pub inked_from : (x : List ℕ) (p r q : Pen) (bs bs' : List ℕ) → p ≡ r
    → ◌≡◌ {A = Ink} (record { pen = q; bs = bs' }) (inked x (record { pen = p; bs = bs }))
    → ◌≡◌ {A = Ink} (record { pen = q; bs = bs' }) (inked x (record { pen = r; bs = bs }))
inked_from x p r q bs bs' e k = rw e at k

-- Each way through a function, for a check that finds its proof by them.
pub ruleset close_ways = (close_none, close_some)

pub ruleset lasting_ways = (lasting_none, lasting_some, fine_of, moved_beat)

pub ruleset rest_ways = (goes_on, rests)
