-- A line of a text: its first byte is no blank, and from every byte of it on the same end is found.
use Prim.Native.Nat.{ℕ, zero, suc, ◌+◌, ◌-◌, ◌<◌, ◌≤◌}
use mathlib.Core.Path.{◌≡◌, refl, sym, ap, ◌∙◌}
use mathlib.Core.Bool.{Bool, true, false}
use mathlib.Core.List.{List, [], ◌∷◌}
use native.Mathlib.Omega.{arith}
use lib.ListN.{length, take, drop, get_or, length-take, length-drop}
use lib.Seq.{drop-drop}
use Rattle.songcode.specs.Lists.{provided◌then◌else◌}
use Rattle.songcode.proofs.ListLaws.{by_cases, drop_take}
use Rattle.tokens.proofs.LineFitLaws.{line_rest}
use Rattle.text.specs.Spans.{blank, line_length, front_blanks, grown, solid_length, line_of, line_at}
use Rattle.text.proofs.TrimLaws.{solid_le}

grown_some : (t : Bool) (n : ℕ) → 0 < n → grown t n ≡ suc n
unfolding grown
grown_some t zero h = absurd (let z : ⊥ = omega arith in z)
grown_some t (suc n) h = refl

grown_most : (t : Bool) (n : ℕ) → grown t n ≤ suc n
unfolding grown
grown_most true zero = omega arith
grown_most false zero = omega arith
grown_most t (suc n) = omega arith

grown_blank : (n : ℕ) → 0 < grown true n → 0 < n
unfolding grown
grown_blank zero h = h
grown_blank (suc n) h = omega arith

-- Behind the blanks in front what is solid ends where it ends.
front_solid : (xs : List ℕ) → 0 < solid_length (drop (front_blanks xs) xs) → front_blanks xs + solid_length (drop (front_blanks xs) xs) ≡ solid_length xs
unfolding front_blanks solid_length provided◌then◌else◌
front_solid [] h = refl
front_solid (b ∷ bs) h =
    by_cases (blank b)
    (λ e.
    let k : 0 < solid_length (drop (front_blanks bs) bs) = rw e at h in
    let i = front_solid bs k in
    rw (e, grown_some true (solid_length bs) (omega arith)) (omega arith))
    (λ e. rw e (rw e (omega arith)))

solid_on : (xs : List ℕ) → 0 < solid_length xs → 0 < solid_length (drop (front_blanks xs) xs)
unfolding front_blanks solid_length provided◌then◌else◌
solid_on [] h = h
solid_on (b ∷ bs) h =
    by_cases (blank b) (λ e. rw e (solid_on bs (grown_blank (solid_length bs) (rw e at h)))) (λ e. rw e h)

first_plain : (xs : List ℕ) → 0 < length (drop (front_blanks xs) xs) → blank (get_or (drop (front_blanks xs) xs) 0 0) ≡ false
unfolding front_blanks provided◌then◌else◌
first_plain [] h = absurd (let z : ⊥ = omega arith in z)
first_plain (b ∷ bs) h = by_cases (blank b) (λ e. rw e (first_plain bs (rw e at h))) (λ e. rw e e)

solid_drop : (k : ℕ) (xs : List ℕ) → k < solid_length xs → k + solid_length (drop k xs) ≡ solid_length xs
unfolding solid_length
solid_drop zero xs h = omega arith
solid_drop (suc k) [] h = absurd (let z : ⊥ = omega arith in z)
solid_drop (suc k) (b ∷ bs) h =
    let most = grown_most (blank b) (solid_length bs) in
    let low : k < solid_length bs = omega arith in
    let i = solid_drop k bs low in
    rw (grown_some (blank b) (solid_length bs) (omega arith)) (omega arith)

-- The bytes of a line with all its blanks.
abbrev whole : List ℕ → ℕ → List ℕ
whole s at = take (line_length (drop at s)) (drop at s)

module _ (s : List ℕ) (n at : ℕ) where
  abbrev front : ℕ
  front = front_blanks (whole s at)

  behind_front : drop front (whole s at) ≡ take (line_length (drop at s) - front) (drop front (drop at s))
  behind_front = drop_take front (line_length (drop at s)) (drop at s)

  stop_is : 0 < solid_length (whole s at) → (line_at s n at).stop ≡ at + solid_length (whole s at)
  unfolding line_of
  stop_is h =
      let e = ap solid_length behind_front in
      let g = front_solid (whole s at) (solid_on (whole s at) h) in
      omega arith

  solid_some : (line_at s n at).start < (line_at s n at).stop → 0 < solid_length (drop front (whole s at))
  unfolding line_of
  solid_some h =
      let e = ap solid_length behind_front in
      omega arith

  whole_some : (line_at s n at).start < (line_at s n at).stop → 0 < solid_length (whole s at)
  whole_some h =
      let k = solid_some h in
      let g = front_solid (whole s at) k in
      omega arith

  whole_low : 0 < solid_length (whole s at) → at + solid_length (whole s at) ≤ length s
  whole_low h =
      let a = solid_le (whole s at) in
      let b = length-take (line_length (drop at s)) (drop at s) in
      let c = length-drop at s in
      omega arith

  pub stop_low : (line_at s n at).start < (line_at s n at).stop → (line_at s n at).stop ≤ length s
  stop_low h =
      let e = stop_is (whole_some h) in
      let l = whole_low (whole_some h) in
      omega arith

  pub start_low : at ≤ (line_at s n at).start
  unfolding line_of
  start_low = omega arith

  pub starts_plain : (line_at s n at).start < (line_at s n at).stop → blank (get_or (drop (line_at s n at).start s) 0 0) ≡ false
  unfolding line_of
  starts_plain h =
      let k = solid_some h in
      let a = solid_le (drop front (whole s at)) in
      let e = behind_front ∙ ap (take (line_length (drop at s) - front)) (drop-drop front at s) in
      plain (line_length (drop at s) - front) (drop (at + front) s) e (first_plain (whole s at) (omega arith)) (omega (arith, ap length e))
    where
      plain : (j : ℕ) (zs : List ℕ) → drop front (whole s at) ≡ take j zs → blank (get_or (drop front (whole s at)) 0 0) ≡ false
          → 0 < length (take j zs) → blank (get_or zs 0 0) ≡ false
      plain j zs e b some = by j zs (ap (λ (ys : List ℕ). blank (get_or ys 0 0)) (sym e) ∙ b) some
        where
          by : (j : ℕ) (zs : List ℕ) → blank (get_or (take j zs) 0 0) ≡ false → 0 < length (take j zs) → blank (get_or zs 0 0) ≡ false
          by zero zs b some = absurd (let z : ⊥ = omega arith in z)
          by (suc j) [] b some = b
          by (suc j) (x ∷ zs) b some = b

-- From a byte inside the line on.
pub stop_inside : (s : List ℕ) (n m at p : ℕ) → (line_at s n at).start ≤ p → p < (line_at s n at).stop → (line_at s m p).stop ≡ (line_at s n at).stop
stop_inside s n m at p low high =
    let from = start_low s n at in
    let some = whole_some s n at (omega arith) in
    let stop = stop_is s n at some in
    let k = p - at in
    let place : at + k ≡ p = omega arith in
    let less : k < solid_length (whole s at) = omega arith in
    let a = solid_le (whole s at) in
    let b = length-take (line_length (drop at s)) (drop at s) in
    let rest : drop p s ≡ drop k (drop at s) = ap (λ (j : ℕ). drop j s) (sym place) ∙ sym (drop-drop k at s) in
    let size : line_length (drop p s) ≡ line_length (drop at s) - k = ap line_length rest ∙ line_rest k (drop at s) (omega arith) in
    let same : whole s p ≡ drop k (whole s at) = rw (size, rest) (sym (drop_take k (line_length (drop at s)) (drop at s))) in
    let solid = solid_drop k (whole s at) less in
    let here = ap solid_length same in
    let there = stop_is s m p (omega arith) in
    omega arith
