-- An outline comes back from its word.
use Prim.Native.Nat.{ℕ, ◌+◌, ◌*◌, ◌/◌, ◌%◌, ◌≤◌}
use mathlib.Core.Path.{◌≡◌, refl}
use native.Mathlib.Omega.{arith}
use Rattle.outlines.specs.declared.readings.Outline.{Outline}
use Rattle.score.specs.Sections.{bit}
use Rattle.score.proofs.ViewLaws.{bit_small, bit_read}
use Rattle.outlines.specs.Words.{is_set, outline_word, outline_in}

abbrev packed : ℕ → ℕ → ℕ → ℕ → ℕ → ℕ → ℕ → ℕ → ℕ
packed m s a b c d e f = m * 32768 + s * 512 + a * 256 + b * 128 + c * 64 + d * 32 + e * 4 + f * 2

module _ (m s a b c d e f : ℕ) (few : s ≤ 33) (p : a ≤ 1) (q : b ≤ 1) (r : c ≤ 1) (t : d ≤ 1) (u : e ≤ 7) (v : f ≤ 1) where
  measures_out : packed m s a b c d e f / 32768 ≡ m
  measures_out = omega arith

  sizes_out : packed m s a b c d e f / 512 % 64 ≡ s
  sizes_out = omega arith

  first_out : packed m s a b c d e f / 256 % 2 ≡ a
  first_out = omega arith

  second_out : packed m s a b c d e f / 128 % 2 ≡ b
  second_out = omega arith

  third_out : packed m s a b c d e f / 64 % 2 ≡ c
  third_out = omega arith

  fourth_out : packed m s a b c d e f / 32 % 2 ≡ d
  fourth_out = omega arith

  fifth_out : packed m s a b c d e f / 4 % 8 ≡ e
  fifth_out = omega arith

  last_out : packed m s a b c d e f / 2 % 2 ≡ f
  last_out = omega arith

pub outline_again : (o : Outline) → o.sizes ≤ 33 → o.depth ≤ 7 → outline_in (outline_word o) ≡ o
unfolding outline_in outline_word is_set
outline_again o h u =
    let m = o.measures in
    let s = o.sizes in
    let a = bit o.wants in
    let b = bit o.empty in
    let c = bit o.chord in
    let d = bit o.refers in
    let e = o.depth in
    let f = bit o.whole in
    let p = bit_small o.wants in
    let q = bit_small o.empty in
    let r = bit_small o.chord in
    let t = bit_small o.refers in
    let v = bit_small o.whole in
    rw (
      measures_out m s a b c d e f h p q r t u v,
      sizes_out m s a b c d e f h p q r t u v,
      first_out m s a b c d e f h p q r t u v,
      second_out m s a b c d e f h p q r t u v,
      third_out m s a b c d e f h p q r t u v,
      fourth_out m s a b c d e f h p q r t u v,
      fifth_out m s a b c d e f h p q r t u v,
      last_out m s a b c d e f h p q r t u v,
      bit_read o.wants,
      bit_read o.empty,
      bit_read o.chord,
      bit_read o.refers,
      bit_read o.whole,
    ) refl
