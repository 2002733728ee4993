-- Moves are added among the twelve roots: a sum of moves is the sum of their ways up, and whole octaves change nothing.
use Prim.Native.Nat.{ℕ, zero, suc, ◌+◌, ◌*◌, ◌-◌, ◌%◌}
use mathlib.Core.Path.{◌≡◌, refl, ap, sym, ◌∙◌}
use native.Mathlib.Omega.{arith}
use native.Mathlib.Nat.{add-zero, add_assoc}
use borrow.Author.Tests.{ltb-true, ltb-false}
use lib.Dec.{ltb}
use lib.IntN.{ℤ, pos, negsuc, neg_ℤ, sub_ℕ, ◌+ℤ◌, ◌*ℤ◌}
use Rattle.songcode.proofs.ListLaws.{by_cases}
use Rattle.concert.specs.Pitches.{upward, moved_root}
use Rattle.concert.specs.Demands.{SumsTo}

-- Octaves are lost in the remainder, and a remainder may stand for its number.
octaves_lost : (x n : ℕ) → (x + 12 * n) % 12 ≡ x % 12
octaves_lost x n = omega arith

remainder_left : (x y : ℕ) → (x % 12 + y) % 12 ≡ (x + y) % 12
remainder_left x y = omega arith

remainder_right : (x y : ℕ) → (x + y % 12) % 12 ≡ (x + y) % 12
remainder_right x y = omega arith

difference_up : (a b : ℕ) → upward (sub_ℕ a (suc b)) % 12 ≡ (a + 11 * suc b) % 12
unfolding upward
difference_up a b = by_cases (ltb a (suc b))
    (λ t.
    let h = ltb-true a (suc b) t in
    let e : a + 11 * suc b ≡ 11 * suc (suc b - suc a) + 12 * a = omega arith in
    rw t (sym (ap (λ n. n % 12) e ∙ octaves_lost (11 * suc (suc b - suc a)) a)))
    (λ f.
    let h = ltb-false a (suc b) f in
    let e : a + 11 * suc b ≡ (a - suc b) + 12 * suc b = omega arith in
    rw f (sym (ap (λ n. n % 12) e ∙ octaves_lost (a - suc b) (suc b))))

sum_up : (a b : ℤ) → upward (a +ℤ b) % 12 ≡ (upward a + upward b) % 12
unfolding upward
sum_up (pos a) (pos b) = refl
sum_up (pos a) (negsuc b) = difference_up a b
sum_up (negsuc a) (pos b) = difference_up b a ∙ ap (λ n. n % 12) (omega arith)
sum_up (negsuc a) (negsuc b) = ap (λ n. n % 12) (omega arith)

negated_octaves : (n : ℕ) → upward (neg_ℤ (pos (12 * n))) % 12 ≡ 0
unfolding upward
negated_octaves zero = refl
negated_octaves (suc n) =
    let e : 12 * suc n ≡ suc (11 + 12 * n) = omega arith in
    rw e (omega arith)

octaves_up : (k : ℤ) → upward (pos 12 *ℤ k) % 12 ≡ 0
unfolding upward
octaves_up (pos n) = omega arith
octaves_up (negsuc n) = negated_octaves (suc n)

-- The third move goes up as far as the two, but for octaves.
third_up : (a b c : ℤ) → SumsTo a b c → upward c % 12 ≡ (upward a + upward b) % 12
third_up a b c s =
    let k = pos 12 *ℤ s.octaves in
    ap (λ m. upward m % 12) s.sums
    ∙ sum_up (a +ℤ b) k
    ∙ sym (remainder_right (upward (a +ℤ b)) (upward k))
    ∙ ap (λ n. (upward (a +ℤ b) + n) % 12) (octaves_up s.octaves)
    ∙ ap (λ n. n % 12) (add-zero (upward (a +ℤ b)))
    ∙ sum_up a b

pub moved_twice_root : (a b c : ℤ) (root : ℕ) → SumsTo a b c → moved_root b (moved_root a root) ≡ moved_root c root
unfolding moved_root
moved_twice_root a b c root s =
    remainder_left (root + upward a) (upward b)
    ∙ ap (λ n. n % 12) (add_assoc root (upward a) (upward b))
    ∙ sym (remainder_right root (upward a + upward b))
    ∙ ap (λ n. (root + n) % 12) (sym (third_up a b c s))
    ∙ remainder_right root (upward c)
