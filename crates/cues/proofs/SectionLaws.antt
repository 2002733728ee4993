-- The sections of tables that join up, one at a time: where its measures stand, how long they last, and what is written for them.
use Prim.Native.Nat.{ℕ, zero, suc, ◌+◌, ◌-◌, ◌^◌, ◌<◌, ◌≤◌}
use mathlib.Core.Path.{◌≡◌, refl, sym, ap, ◌∙◌, subst}
use mathlib.Core.List.{List, [], ◌∷◌, ◌++◌}
use mathlib.Core.Bool.{true, false, ◌&&◌}
use native.Mathlib.Numerals.{add-one}
use native.Mathlib.Omega.{arith}
use lib.Dec.{eqb, leb}
use lib.ListN.{length, take, drop, get_or, length-drop, drop_of_length-le}
use lib.Seq.{sets, drop-cons, drop-drop, length-take-le}
use borrow.Rule.Slice.PartMut.{put_mid}
use borrow.Author.Tests.{eqb-true, leb-true, ne_eqb}
use Rattle.songcode.specs.Lists.{sum, every}
use Rattle.songcode.specs.Description.Joined.{first_beat, end_beat, follows, first_measure, measure_count, section_bpm, covers, is_short, measures_join}
use Rattle.songcode.specs.Description.Joined.{join_up}
use Rattle.songcode.proofs.ListLaws.{both_pass, sum_append}
use Rattle.songcode.proofs.FollowLaws.{follow_parts, end_is}
use Rattle.songcode.proofs.MemoryLaws.{Wrote, wrote_lent}
use Rattle.cues.specs.Cues.{lengths_at, lengths, starts, is_timed}

-- Measures that follow on one another have a beat each, so there are no more of them than first beats.
follow_far : (beat : ℕ) (table : List ℕ) → follows beat table ≡ true → (k : ℕ) → k < length table → beat + k ≤ first_beat (get_or table k 0)
follow_far beat [] f k l = absurd (omega arith)
follow_far beat (w ∷ ws) f zero l = let p = follow_parts beat w ws f in omega arith
follow_far beat (w ∷ ws) f (suc k) l =
    let p = follow_parts beat w ws f in
    let e = end_is w in
    let h = follow_far (end_beat w) ws p.2 k (omega arith) in
    omega arith

pub measures_few : (table : List ℕ) → follows 0 table ≡ true → ((k : ℕ) → get_or table k 0 < 2 ^ 32) → length table ≤ 2 ^ 21
unfolding first_beat
measures_few [] f small = omega arith
measures_few (w ∷ ws) f small =
    let h = follow_far 0 (w ∷ ws) f (length ws) (omega arith) in
    let s = small (length ws) in
    omega (arith, h, s)

pub covers_le : (first n : ℕ) (sections : List ℕ) → covers first n sections ≡ true → first ≤ n
unfolding covers
covers_le first n [] c = let e = eqb-true first n c in omega arith
covers_le first n (w ∷ ws) c =
    let h = covers_le (first + measure_count w) n ws (both_pass (eqb (first_measure w) first) (covers (first + measure_count w) n ws) c).1 in
    omega arith

module _ (i : ℕ) (sections : List ℕ) (l : i < length sections) where
  -- The section's measures are there, and those behind go on after them.
  pub cover_at : (first n : ℕ) → covers first n (drop i sections) ≡ true
      → (first + measure_count (get_or sections i 0) ≤ n) × (covers (first + measure_count (get_or sections i 0)) n (drop (i + 1) sections) ≡ true)
  unfolding covers
  cover_at first n c =
      let d : covers first n (get_or sections i 0 ∷ drop (suc i) sections) ≡ true = subst (λ xs. covers first n xs ≡ true) (drop-cons sections i 0 l) c in
      let h = (both_pass (eqb (first_measure (get_or sections i 0)) first)
      (covers (first + measure_count (get_or sections i 0)) n (drop (suc i) sections)) d).1 in
      (covers_le (first + measure_count (get_or sections i 0)) n (drop (suc i) sections) h, rw (add-one i) h)

  pub timed_at : every is_timed (drop i sections) ≡ true → (is_timed (get_or sections i 0) ≡ true) × (every is_timed (drop (i + 1) sections) ≡ true)
  unfolding every
  timed_at t =
      let d : every is_timed (get_or sections i 0 ∷ drop (suc i) sections) ≡ true = subst (λ xs. every is_timed xs ≡ true) (drop-cons sections i 0 l) t in
      let h = both_pass (is_timed (get_or sections i 0)) (every is_timed (drop (suc i) sections)) d in
      (h.0, rw (add-one i) h.1)

  pub lengths_section : (first : ℕ) (measures : List ℕ) → lengths (drop i sections) (drop first measures)
      ≡ lengths_at (section_bpm (get_or sections i 0)) (take (measure_count (get_or sections i 0)) (drop first measures))
      ++ lengths (drop (i + 1) sections) (drop (first + measure_count (get_or sections i 0)) measures)
  unfolding lengths
  lengths_section first measures =
      rw (add-one i, drop-cons sections i 0 l, drop-drop (measure_count (get_or sections i 0)) first measures)

-- A section with measures has a bpm from the table.
pub timed_bpm : (w : ℕ) → is_timed w ≡ true → 1 ≤ measure_count w → section_bpm w ≤ 400
unfolding is_timed
timed_bpm w t l =
    let e : eqb (measure_count w) 0 ≡ false = ne_eqb (measure_count w) 0 (λ z. absurd (omega arith)) in
    let d : leb 1 (section_bpm w) && leb (section_bpm w) 400 ≡ true = rw e at t in
    leb-true (section_bpm w) 400 (both_pass (leb 1 (section_bpm w)) (leb (section_bpm w) 400) d).1

starts_append : (time : ℕ) (xs ys : List ℕ) → starts time (xs ++ ys) ≡ starts time xs ++ starts (time + sum xs) ys
unfolding starts sum
starts_append time [] ys = ap (λ t. starts t ys) (omega arith)
starts_append time (x ∷ xs) ys =
    ap (λ zs. time ∷ zs) (starts_append (time + x) xs ys ∙ ap (λ t. starts (time + x) xs ++ starts t ys) (omega arith))

pub length_starts : (time : ℕ) (xs : List ℕ) → length (starts time xs) ≡ length xs
unfolding starts
length_starts time [] = refl
length_starts time (x ∷ xs) = ap (λ n. suc n) (length_starts (time + x) xs)

pub length_lengths_at : (bpm : ℕ) (xs : List ℕ) → length (lengths_at bpm xs) ≡ length xs
unfolding lengths_at
length_lengths_at bpm [] = refl
length_lengths_at bpm (x ∷ xs) = ap (λ n. suc n) (length_lengths_at bpm xs)

-- The stretch of a section is written: n and m are its measures, as the code counts them.
module _ (i first time bpm n m : ℕ) (sections measures : List ℕ) (l : i < length sections)
    (b : bpm ≡ section_bpm (get_or sections i 0)) (k : n ≡ measure_count (get_or sections i 0)) (j : m ≡ measure_count (get_or sections i 0)) where
  pub sum_section : time + sum (lengths (drop i sections) (drop first measures))
      ≡ time + sum (lengths_at bpm (take n (drop first measures))) + sum (lengths (drop (i + 1) sections) (drop (first + m) measures))
  sum_section =
      rw (
        lengths_section i sections l first measures,
        b,
        k,
        j,
        sum_append
            (lengths_at (section_bpm (get_or sections i 0)) (take (measure_count (get_or sections i 0)) (drop first measures)))
            (lengths (drop (i + 1) sections) (drop (first + measure_count (get_or sections i 0)) measures)),
      )
      (omega arith)

  pub starts_section : (o o' all ys : List ℕ) → first + m ≤ length measures
      → Wrote o first o' (starts time (lengths (drop i sections) (drop first measures))) all
      → ys ≡ sets (take (length o' - first) (drop first o')) 0 (starts time (lengths_at bpm (take n (drop first measures))))
      → Wrote o (first + m) (put_mid first (length o' - first) o' ys)
      (starts (time + sum (lengths_at bpm (take n (drop first measures)))) (lengths (drop (i + 1) sections) (drop (first + m) measures))) all
  starts_section o o' all ys f w y =
      let xs = lengths_at bpm (take n (drop first measures)) in
      let rest = lengths (drop (i + 1) sections) (drop (first + m) measures) in
      let e : lengths (drop i sections) (drop first measures) ≡ xs ++ rest = rw (b, k, j) (lengths_section i sections l first measures) in
      let size : length (starts time xs) ≡ m =
      length_starts time xs ∙ length_lengths_at bpm (take n (drop first measures))
      ∙ length-take-le n (drop first measures) (simp length-drop (omega arith)) ∙ k ∙ sym j in
      wrote_lent o first o' (starts time xs) (starts (time + sum xs) rest) all ys m size
      (subst (λ zs. Wrote o first o' zs all) (ap (λ zs. starts time zs) e ∙ starts_append time xs rest) w) y

pub lengths_none : (i first : ℕ) (sections measures : List ℕ) → length sections ≤ i → lengths (drop i sections) (drop first measures) ≡ []
unfolding lengths
lengths_none i first sections measures l = rw (drop_of_length-le sections {i = i} l)

pub joined_parts : (sections measures : List ℕ) → join_up sections measures ≡ true → (covers 0 (length measures) sections ≡ true) × (follows 0 measures ≡ true)
unfolding join_up measures_join
joined_parts sections measures j =
    let g = both_pass (covers 0 (length measures) sections) (follows 0 measures && every is_short measures) j in
    (g.0, (both_pass (follows 0 measures) (every is_short measures) g.1).0)

pub part_length : (a n : ℕ) (xs : List ℕ) → a + n ≤ length xs → length (take n (drop a xs)) ≡ n
part_length a n xs l = length-take-le n (drop a xs) (simp length-drop (omega arith))
