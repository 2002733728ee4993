-- The outline of described items tells of them, and it is the only one that does.
use Prim.Native.Nat.{ℕ, zero, suc, ◌+◌, ◌%◌, ◌<◌, ◌≤◌}
use mathlib.Core.Path.{◌≡◌, refl, sym, ◌∙◌}
use mathlib.Core.Bool.{Bool, true}
use mathlib.Core.Option.{Option, some}
use native.Mathlib.Omega.{arith}
use native.Mathlib.Nat.{mod_self}
use borrow.Author.Tests.{eq-eqb, eqb-true, eqb-false}
use lib.Dec.{eqb}
use Rattle.songcode.specs.Lists.{provided◌then◌else◌}
use Rattle.songcode.specs.Song.{Item, measure, loop, refer, Items, one, next}
use Rattle.songcode.specs.Answer.PatternText.{depth, loops_deep}
use Rattle.songcode.specs.Answer.Playing.{positions}
use Rattle.songcode.specs.Answer.References.{put_in}
use Rattle.songcode.specs.Answer.Meter.{fits, all_fit_item, all_fit}
use Rattle.songcode.proofs.ListLaws.{by_cases, both_pass, pass_both}
use Rattle.outlines.specs.declared.readings.Outline.{Outline}
use Rattle.outlines.specs.Sizes.{divides, first_from}
use Rattle.outlines.specs.Told.{Tells, Sketches}
use Rattle.outlines.specs.Rows.{sizes_of, outline_by, outline_of}
use Rattle.outlines.proofs.FitLaws.{large_not, divides_trans, divides_rest, first_divides}
use Rattle.outlines.proofs.SmallLaws.{first_between}

-- What fits two numbers fits the rest, and what fits a number fits its multiples.
mutual
  unfolding all_fit all_fit_item fits divides

  item_rest : (a b : ℕ) (i : Item) → all_fit_item a i ≡ true → all_fit_item b i ≡ true → all_fit_item (b % a) i ≡ true
  item_rest a b (measure m) e f = divides_rest (positions m) a b e f
  item_rest a b (loop r k) e f = items_rest a b r e f
  item_rest a b (refer k) e f = refl

  items_rest : (a b : ℕ) (r : Items) → all_fit a r ≡ true → all_fit b r ≡ true → all_fit (b % a) r ≡ true
  items_rest a b (one i) e f = item_rest a b i e f
  items_rest a b (next r s i) e f =
      let g = both_pass (all_fit a r) (all_fit_item a i) e in
      let h = both_pass (all_fit b r) (all_fit_item b i) f in
      pass_both (items_rest a b r g.0 h.0) (item_rest a b i g.1 h.1)

mutual
  unfolding all_fit all_fit_item fits divides

  item_multiple : (a n : ℕ) (i : Item) → all_fit_item a i ≡ true → divides a n ≡ true → all_fit_item n i ≡ true
  item_multiple a n (measure m) e f = divides_trans (positions m) a n e f
  item_multiple a n (loop r k) e f = items_multiple a n r e f
  item_multiple a n (refer k) e f = refl

  items_multiple : (a n : ℕ) (r : Items) → all_fit a r ≡ true → divides a n ≡ true → all_fit n r ≡ true
  items_multiple a n (one i) e f = item_multiple a n i e f
  items_multiple a n (next r s i) e f =
      let g = both_pass (all_fit a r) (all_fit_item a i) e in
      pass_both (items_multiple a n r g.0 f) (item_multiple a n i g.1 f)

-- The described outline tells of the items.
sizes_told : (r : Items) (n : ℕ) → 1 ≤ n → n ≤ 32 → divides (sizes_of r) n ≡ all_fit n r
unfolding sizes_of
sizes_told r = first_divides (λ n. all_fit n r) (λ a b. items_rest a b r) (λ a n. items_multiple a n r)

pub described_tells : (own put : Items) → Tells (outline_by own put) put
unfolding outline_by
described_tells own put = record { sizes = sizes_told put; wants = refl; chord = refl; measures = refl; whole = refl }

pub described_sketches : (own put : Items) → Sketches (outline_by own put) own
unfolding outline_by
described_sketches own put = record { filled = refl; depth = refl; refers = refl }

pub described_small : (own put : Items) → (outline_by own put).sizes ≤ 33
unfolding outline_by sizes_of
described_small own put = (first_between (λ n. all_fit n put) 32 1).1

pub described_shallow : (own put : Items) → depth own ≤ loops_deep → (outline_by own put).depth ≤ 7
unfolding outline_by loops_deep
described_shallow own put h = omega arith

-- A number that divides exactly those that pass is the first that passes.
first_is : (test : ℕ → Bool) (s k m : ℕ) → 1 ≤ m → m ≤ s → s ≤ m + k → ((n : ℕ) → m ≤ n → n < m + k → divides s n ≡ test n) → first_from test k m ≡ s
unfolding first_from provided◌then◌else◌ divides
first_is test s zero m a b c e = omega arith
first_is test s (suc k) m a b c e =
    by_cases (eqb m s)
    (λ y.
    let z = eqb-true m s y in
    let t : test m ≡ true = sym (e m (omega arith) (omega arith)) ∙ rw z (eq-eqb (s % s) 0 (mod_self s)) in
    rw t z)
    (λ y.
    let z = eqb-false m s y in
    let t = sym (e m (omega arith) (omega arith)) ∙ large_not s m a (omega (arith, z)) in
    rw t (first_is test s k (m + 1) (omega arith) (omega (arith, z)) (omega arith) (λ n h l. e n (omega arith) (omega arith))))

same_outline : {a a' c c' f f' g g' i i' : Bool} {b b' d d' h h' : ℕ} → a ≡ a' → b ≡ b' → c ≡ c' → d ≡ d' → f ≡ f' → g ≡ g' → h ≡ h' → i ≡ i'
    → ◌≡◌ {A = Outline} (record { empty = a; depth = b; refers = c; sizes = d; wants = f; chord = g; measures = h; whole = i })
    (record { empty = a'; depth = b'; refers = c'; sizes = d'; wants = f'; chord = g'; measures = h'; whole = i' })
same_outline p q r s t u v w = rw (p, q, r, s, t, u, v, w) refl

-- So it is the described one.
pub tells_described : (find : ℕ → Option Items) (o : Outline) (r : Items) → Sketches o r → Tells o (put_in find r) → 1 ≤ o.sizes → o.sizes ≤ 33
    → o ≡ outline_of find (some r)
unfolding outline_of outline_by sizes_of
tells_described find o r k t low high =
    let put = put_in find r in
    same_outline k.filled k.depth k.refers
    (sym (first_is (λ n. all_fit n put) o.sizes 32 1 (omega arith) low high (λ n h l. t.sizes n h (omega arith))))
    t.wants t.chord t.measures t.whole
