-- A beat word: what is left of one when its base is moved, and that it is refused no more.
use Prim.Native.Nat.{ℕ, ◌+◌, ◌*◌, ◌/◌, ◌%◌, ◌^◌, ◌<◌}
use mathlib.Core.Path.{◌≡◌, refl}
use mathlib.Core.Bool.{false, not, ◌&&◌}
use native.Mathlib.Omega.{arith}
use borrow.Author.Tests.{lt-leb, eqb-true, eqb-false, not-false}
use lib.Dec.{eqb, leb}
use lib.IntN.{ℤ}
use Rattle.songcode.specs.Lists.{provided◌then◌else◌}
use Rattle.songcode.specs.Answer.Chords.{spelling_of, root_of, is_minor}
use Rattle.songcode.proofs.ListLaws.{by_cases, none_passes}
use Rattle.concert.specs.Pitches.{moved_root, moved_base}
use Rattle.concert.specs.Moves.{base_in, behind_base, moved_word, is_odd}
use Rattle.concert.proofs.BaseLaws.{moved_below, name_sounds}

pub moved_listed : (z : ℤ) (b : ℕ) → moved_base z b < 34
unfolding moved_base
moved_listed z b = (name_sounds (is_minor (spelling_of b)) (moved_root z (root_of (spelling_of b))) (moved_below z (root_of (spelling_of b)))).listed

-- A word of a base and of bits behind it.
pub packed_base : (b r : ℕ) → r < 67108864 → base_in (b * 2 ^ 26 + r) ≡ b
unfolding base_in
packed_base b r h = omega arith

pub packed_behind : (b r : ℕ) → r < 67108864 → behind_base (b * 2 ^ 26 + r) ≡ r
unfolding behind_base
packed_behind b r h = omega arith

-- A word moved: silence, or a base and what was behind it.
pub by_base : (P : ℕ → Type 0) (z : ℤ) (w : ℕ) → (base_in w ≡ 63 → P w)
    → ((base_in w ≡ 63 → ⊥) → P (moved_base z (base_in w) * 2 ^ 26 + behind_base w)) → P (moved_word z w)
unfolding moved_word provided◌then◌else◌
by_base P z w f g = by_cases (eqb (base_in w) 63) (λ t. rw t (f (eqb-true (base_in w) 63 t))) (λ e. rw e (g (eqb-false (base_in w) 63 e)))

pub behind_below : (w : ℕ) → behind_base w < 67108864
unfolding behind_base
behind_below w = omega arith

pub behind_stays : (z : ℤ) (w : ℕ) → behind_base (moved_word z w) ≡ behind_base w
behind_stays z w = by_base (λ v. behind_base v ≡ behind_base w) z w (λ e. refl) (λ n. packed_behind (moved_base z (base_in w)) (behind_base w) (behind_below w))

pub silence_stays : (z : ℤ) (w : ℕ) → base_in w ≡ 63 → moved_word z w ≡ w
silence_stays z w e = by_base (λ v. v ≡ w) z w (λ e. refl) (λ n. absurd (n e))

pub chord_moves : (z : ℤ) (w : ℕ) → (base_in w ≡ 63 → ⊥) → moved_word z w ≡ moved_base z (base_in w) * 2 ^ 26 + behind_base w
chord_moves z w n = by_base (λ v. v ≡ moved_base z (base_in w) * 2 ^ 26 + behind_base w) z w (λ e. absurd (n e)) (λ m. refl)

-- A moved word is refused no more than the word was.
pub even_stays : (z : ℤ) (w : ℕ) → is_odd w ≡ false → is_odd (moved_word z w) ≡ false
unfolding is_odd base_in behind_base
even_stays z w f = by_base (λ v. is_odd v ≡ false) z w (λ e. f) (λ n. moved (moved_base z (base_in w)) (moved_listed z (base_in w)))
  where
    moved : (b : ℕ) → b < 34 → is_odd (b * 2 ^ 26 + behind_base w) ≡ false
    moved b h =
        let p = none_passes (leb 34 (w / 2 ^ 26) && leb (w / 2 ^ 26) 62) (not (eqb (w % 2 ^ 4) 0)) f in
        let s : w % 16 ≡ 0 = eqb-true (w % 2 ^ 4) 0 (not-false (eqb (w % 2 ^ 4) 0) p.1) in
        let q : (b * 2 ^ 26 + w % 2 ^ 26) / 2 ^ 26 ≡ b = omega arith in
        let t : (b * 2 ^ 26 + w % 2 ^ 26) % 2 ^ 4 ≡ 0 = omega arith in
        rw (q, t, lt-leb 34 b h) refl
