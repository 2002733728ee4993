-- A number up to 32 is divided by joined sizes exactly where it is by both.
use Prim.Native.Nat.{ℕ, zero, suc, ◌+◌, ◌%◌, ◌<◌, ◌≤◌, min}
use mathlib.Core.Path.{◌≡◌, refl, sym, ◌∙◌}
use mathlib.Core.Bool.{Bool, true, false, ◌&&◌}
use native.Mathlib.Omega.{arith}
use native.Mathlib.Nat.{mod-eq_of_lt, mod-lt, dvd-mod_iff, dvd_trans, mod-eq-zero_of_dvd, dvd_of_mod-eq-zero}
use borrow.Author.Tests.{eq-eqb, ne_eqb, eqb-true, eqb-false, leb-true, leb-false, ltb-true}
use lib.Dec.{eqb, leb, ltb}
use Rattle.songcode.specs.Lists.{provided◌then◌else◌}
use Rattle.songcode.proofs.ListLaws.{by_cases, both_pass, pass_both, true_is_not_false}
use Rattle.outlines.specs.Sizes.{divides, first_from, common_by, joined}

-- A larger number divides none but 0.
pub large_not : (p n : ℕ) → 1 ≤ n → n < p → divides p n ≡ false
unfolding divides
large_not p n h k = let e : n % p ≡ n = mod-eq_of_lt k in ne_eqb (n % p) 0 (λ z. let y : n ≡ 0 = sym e ∙ z in omega arith)

pub divides_trans : (a b n : ℕ) → divides a b ≡ true → divides b n ≡ true → divides a n ≡ true
unfolding divides
divides_trans a b n h k =
    eq-eqb (n % a) 0 (mod-eq-zero_of_dvd a (dvd_trans a (dvd_of_mod-eq-zero a (eqb-true (b % a) 0 h)) (dvd_of_mod-eq-zero b (eqb-true (n % b) 0 k))))

-- What divides m and n divides the rest.
pub divides_rest : (a m n : ℕ) → divides a m ≡ true → divides a n ≡ true → divides a (n % m) ≡ true
unfolding divides
divides_rest a m n h k =
    eq-eqb ((n % m) % a) 0
    (mod-eq-zero_of_dvd a ((dvd-mod_iff a (dvd_of_mod-eq-zero a (eqb-true (m % a) 0 h))).1 (dvd_of_mod-eq-zero a (eqb-true (n % a) 0 k))))

-- The first number that passes a test.
record First (test : ℕ → Bool) (k m c : ℕ) : Type 0 where
  from : m ≤ c
  passes : c < m + k → test c ≡ true
  least : (n : ℕ) → m ≤ n → n < m + k → test n ≡ true → c ≤ n

first_found : (test : ℕ → Bool) (k m : ℕ) → First test k m (first_from test k m)
unfolding first_from provided◌then◌else◌
first_found test zero m = record { from = omega arith; passes = λ h. (let z : ⊥ = omega arith in absurd z); least = λ n h l e. omega arith }
first_found test (suc k) m = by_cases (test m)
    (λ e. rw e (record { from = omega arith; passes = λ h. e; least = λ n h l f. h }))
    (λ e.
    let f = first_found test k (m + 1) in
    rw e (record {
      from = let g = f.from in omega arith;
      passes = λ h. f.passes (omega arith);
      least = λ n h l g. by_cases (eqb n m)
          (λ y. let z = eqb-true n m y in
          let w : test m ≡ true = rw z at g in true_is_not_false w e)
          (λ y. let z = eqb-false n m y in f.least n (omega (arith, z)) (omega arith) g);
    }))

pub same_test : (x y : Bool) → (x ≡ true → y ≡ true) → (y ≡ true → x ≡ true) → x ≡ y
same_test true y f g = sym (f refl)
same_test false false f g = refl
same_test false true f g = g refl

some_rest : (j : ℕ) → eqb j 0 ≡ false → 1 ≤ j
some_rest zero y = true_is_not_false refl y
some_rest (suc j) y = omega arith

rest : (p q : ℕ) → divides p q ≡ false → 1 ≤ q % p
unfolding divides
rest p q y = some_rest (q % p) y

-- A test that with a number all its multiples pass, and with two numbers the rest: up to 32 the first number divides exactly those that pass.
module _ (test : ℕ → Bool) (rests : (a b : ℕ) → test a ≡ true → test b ≡ true → test (b % a) ≡ true)
    (multiples : (a n : ℕ) → test a ≡ true → divides a n ≡ true → test n ≡ true) (n : ℕ) (low : 1 ≤ n) (high : n ≤ 32) where
  abbrev first : ℕ
  first = first_from test 32 1

  first_into : test n ≡ true → divides first n ≡ true
  first_into e =
      let f = first_found test 32 1 in
      let l = f.least n low (omega arith) e in
      let p = f.from in
      let r = rests first n (f.passes (omega arith)) e in
      let m = mod-lt n {m = first} (omega arith) in
      by_cases (divides first n) (λ y. y)
      (λ y. (let z : 1 ≤ n % first = rest first n y in
      let w = f.least (n % first) z (omega arith) r in
      let x : ⊥ = omega arith in absurd x))

  first_passes : divides first n ≡ true → test n ≡ true
  first_passes e =
      by_cases (leb first n)
      (λ y. let l = leb-true first n y in multiples first n ((first_found test 32 1).passes (omega arith)) e)
      (λ y. true_is_not_false e (large_not first n low (leb-false first n y)))

  pub first_divides : divides first n ≡ test n
  first_divides = same_test (divides first n) (test n) first_passes first_into

common_divides : (a b n : ℕ) → 1 ≤ n → n ≤ 32 → divides (common_by 32 1 a b) n ≡ (divides a n && divides b n)
unfolding common_by
common_divides a b n h k =
    first_divides (λ m. divides a m && divides b m)
    (λ m l e f.
    let t = both_pass (divides a m) (divides b m) e in
    let d = both_pass (divides a l) (divides b l) f in
    pass_both (divides_rest a m l t.0 d.0) (divides_rest b m l t.1 d.1))
    (λ m l e f. let t = both_pass (divides a m) (divides b m) e in pass_both (divides_trans a m l t.0 f) (divides_trans b m l t.1 f))
    n
    h
    k

-- In an N of 1 to 32.
pub joined_fits : (s p n : ℕ) → 1 ≤ n → n ≤ 32 → divides (joined s p) n ≡ (divides s n && divides p n)
unfolding joined provided◌then◌else◌
joined_fits s p n h k = by_cases (ltb 32 s)
    (λ e. let l = ltb-true 32 s e in rw (e, large_not s n h (omega arith)))
    (λ e. by_cases (divides p s)
    (λ f. rw (e, f) (same_test (divides s n) (divides s n && divides p n) (λ y. pass_both y (divides_trans p s n f y))
    (λ y. (both_pass (divides s n) (divides p n) y).0)))
    (λ f. rw (e, f) (common_divides s p n h k)))

-- A number of positions above 32 may be counted as 33.
pub capped_fits : (p n : ℕ) → 1 ≤ n → n ≤ 32 → divides (min 33 p) n ≡ divides p n
capped_fits p n h k = by_cases (leb p 33)
    (λ e. let l = leb-true p 33 e in
    let m : min 33 p ≡ p = omega arith in rw m)
    (λ e. let l = leb-false p 33 e in
    let m : min 33 p ≡ 33 = omega arith in rw (m, large_not 33 n h (omega arith), large_not p n h (omega arith)))
