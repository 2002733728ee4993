-- The starts beat by beat: each beat of a measure of tables that join up is found in that measure and in its section.
use Prim.Native.Nat.{ℕ, zero, suc, ◌+◌, ◌-◌, ◌*◌, ◌<◌, ◌≤◌}
use mathlib.Core.Path.{◌≡◌, refl, ap, ◌∙◌}
use mathlib.Core.List.{List, [], ◌∷◌, ◌++◌, map}
use mathlib.Core.Bool.{true, false}
use native.Mathlib.Nat.{add-zero, add-suc, suc-mul, zero-add}
use native.Mathlib.Omega.{arith}
use lib.Dec.{eqb, ltb}
use lib.ListN.{length, take, drop, get_or, length-drop, length-map, length-append, get_or-append}
use lib.Seq.{take_all, take-suc, get_or-append-add, get_or-take, get_or-drop, length-take-le}
use borrow.Author.Tests.{eqb-true, le-leb, ltb-true, ltb-false, lt-ltb, le-ltb}
use Rattle.songcode.specs.Lists.{sum}
use Rattle.songcode.specs.Description.Joined.{first_beat, beat_count, end_beat, follows, first_measure, measure_count, section_bpm, covers, join_up}
use Rattle.songcode.proofs.ListLaws.{by_cases, both_pass, sum_append}
use Rattle.songcode.proofs.FollowLaws.{follow_parts, end_is, apart}
use Rattle.cues.specs.Cues.{beat_length, lengths_at, lengths}
use Rattle.cues.specs.Beats.{is_among, measure_of, bpm_of, lasts, sum_before}
use Rattle.cues.proofs.SectionLaws.{covers_le, length_lengths_at, joined_parts}

among : (first many n : ℕ) → first ≤ n → n < first + many → is_among first many n ≡ true
unfolding is_among
among first many n l m = rw (le-leb first n l, lt-ltb n (first + many) m)

not_among : (first many n : ℕ) → first + many ≤ n → is_among first many n ≡ false
unfolding is_among
not_among first many n m = let l : first ≤ n = omega arith in rw (le-leb first n l, le-ltb n (first + many) m)

-- A beat of a measure is found in it.
measure_found : (at : ℕ) (table : List ℕ) → follows at table ≡ true → (k beat : ℕ) → k < length table → first_beat (get_or table k 0) ≤ beat
    → beat < first_beat (get_or table k 0) + beat_count (get_or table k 0) → measure_of table beat ≡ k
unfolding measure_of
measure_found at [] f k beat l a b = absurd (omega arith)
measure_found at (w ∷ ws) f zero beat l a b = rw (among (first_beat w) (beat_count w) beat a b)
measure_found at (w ∷ ws) f (suc k) beat l a b =
    let behind = apart at (w ∷ ws) f 0 (suc k) (omega arith) l in
    let e = end_is w in
    rw (not_among (first_beat w) (beat_count w) beat (omega arith)) (ap suc (measure_found (end_beat w) ws (follow_parts at w ws f).2 k beat (omega arith) a b))

-- The first beat of a measure is the beats before it.
first_is : (at : ℕ) (table : List ℕ) → follows at table ≡ true → (k : ℕ) → k < length table
    → first_beat (get_or table k 0) ≡ at + sum (take k (map beat_count table))
unfolding sum
first_is at [] f k l = absurd (omega arith)
first_is at (w ∷ ws) f zero l = let p = follow_parts at w ws f in omega arith
first_is at (w ∷ ws) f (suc k) l =
    let p = follow_parts at w ws f in
    let e = end_is w in
    let h = first_is (end_beat w) ws p.2 k (omega arith) in
    omega arith

length_at : (bpm : ℕ) (table : List ℕ) (k : ℕ) → k < length table → get_or (lengths_at bpm table) k 0 ≡ beat_count (get_or table k 0) * beat_length bpm
unfolding lengths_at
length_at bpm [] k l = absurd (omega arith)
length_at bpm (w ∷ ws) zero l = refl
length_at bpm (w ∷ ws) (suc k) l = length_at bpm ws k (omega arith)

-- Every measure has its length.
lengths_many : (first : ℕ) (sections table : List ℕ) → covers first (first + length table) sections ≡ true → length (lengths sections table) ≡ length table
unfolding covers lengths
lengths_many first [] table c = let z = eqb-true first (first + length table) c in omega arith
lengths_many first (w ∷ ws) table c =
    let p = both_pass (eqb (first_measure w) first) (covers (first + measure_count w) (first + length table) ws) c in
    let m = covers_le (first + measure_count w) (first + length table) ws p.1 in
    let left = length-drop (measure_count w) table in
    let e : first + length table ≡ first + measure_count w + length (drop (measure_count w) table) = omega arith in
    let h = lengths_many (first + measure_count w) ws (drop (measure_count w) table) (rw e at p.1) in
    let own = length_lengths_at (section_bpm w) (take (measure_count w) table) ∙ length-take-le (measure_count w) table (omega arith) in
    length-append (lengths_at (section_bpm w) (take (measure_count w) table)) (lengths ws (drop (measure_count w) table)) ∙ omega arith

-- A measure lasts its beats at the bpm of the section in which it is found.
measure_lasts : (first : ℕ) (sections table : List ℕ) → covers first (first + length table) sections ≡ true → (k : ℕ) → k < length table
    → get_or (lengths sections table) k 0 ≡ beat_count (get_or table k 0) * beat_length (bpm_of sections (first + k))
unfolding covers lengths bpm_of
measure_lasts first [] table c k l = let z = eqb-true first (first + length table) c in absurd (omega arith)
measure_lasts first (w ∷ ws) table c k l =
    let p = both_pass (eqb (first_measure w) first) (covers (first + many) (first + length table) ws) c in
    let f = eqb-true (first_measure w) first p.0 in
    let m = covers_le (first + many) (first + length table) ws p.1 in
    let left = length-drop many table in
    let e : first + length table ≡ first + many + length (drop many table) = omega arith in
    let taken : length (take many table) ≡ many = length-take-le many table (omega arith) in
    let size : length own ≡ many = length_lengths_at (section_bpm w) (take many table) ∙ taken in
    by_cases (ltb k many)
    (λ t.
    let h = ltb-true k many t in
    rw (f, among first many (first + k) (omega arith) (omega arith))
    (get_or-append own rest 0 k (omega arith) ∙ length_at (section_bpm w) (take many table) k (omega arith)
    ∙ ap (λ v. beat_count v * beat_length (section_bpm w)) (get_or-take many table k 0 h)))
    (λ t.
    let h = ltb-false k many t in
    rw (f, not_among first many (first + k) (omega arith))
    (behind size (k - many) k (omega arith) (measure_lasts (first + many) ws (drop many table) (rw e at p.1) (k - many) (omega arith))))
  where
    many : ℕ
    many = measure_count w

    own : List ℕ
    own = lengths_at (section_bpm w) (take many table)

    rest : List ℕ
    rest = lengths ws (drop many table)

    behind : length own ≡ many → (j k : ℕ) → k ≡ many + j
        → get_or rest j 0 ≡ beat_count (get_or (drop many table) j 0) * beat_length (bpm_of ws (first + many + j))
        → get_or (own ++ rest) k 0 ≡ beat_count (get_or table k 0) * beat_length (bpm_of ws (first + k))
    behind size j k e h =
        let a : first + many + j ≡ first + k = omega arith in
        let b : length own + j ≡ k = omega arith in
        let at = get_or-append-add own rest j 0 in
        let from = get_or-drop many table j 0 in
        cc

-- Beats that last alike, and one more of a list.
sum_stretch : (f : ℕ → ℕ) (at many v : ℕ) → ((j : ℕ) → j < many → f (at + j) ≡ v) → sum_before f (at + many) ≡ sum_before f at + many * v
unfolding sum_before
sum_stretch f at zero v h = rw (add-zero at) (omega arith)
sum_stretch f at (suc many) v h =
    let k = sum_stretch f at many v (λ j l. h j (omega arith)) in
    let e = h many (omega arith) in
    rw (add-suc at many, suc-mul many v) (omega arith)

sum_next : (xs : List ℕ) (k : ℕ) → k < length xs → sum (take (suc k) xs) ≡ sum (take k xs) + get_or xs k 0
unfolding sum
sum_next xs k l = rw (take-suc xs k 0 l, sum_append (take k xs) (get_or xs k 0 ∷ [])) (omega arith)

count_at : (table : List ℕ) (k : ℕ) → k < length table → get_or (map beat_count table) k 0 ≡ beat_count (get_or table k 0)
count_at [] k l = absurd (omega arith)
count_at (w ∷ ws) zero l = refl
count_at (w ∷ ws) (suc k) l = count_at ws k (omega arith)

module _ (sections measures : List ℕ) (joins : join_up sections measures ≡ true) where
  covered : covers 0 (0 + length measures) sections ≡ true
  covered = rw (zero-add (length measures)) (joined_parts sections measures joins).0

  pub as_many : length (lengths sections measures) ≡ length measures
  as_many = lengths_many 0 sections measures covered

  -- A beat of a measure lasts as its section has it.
  found : (k beat : ℕ) → k < length measures → first_beat (get_or measures k 0) ≤ beat
      → beat < first_beat (get_or measures k 0) + beat_count (get_or measures k 0)
      → lasts sections measures beat ≡ beat_length (bpm_of sections (0 + k))
  unfolding lasts
  found k beat l a b = rw (measure_found 0 measures (joined_parts sections measures joins).1 k beat l a b, zero-add k)

  -- The lengths of the first measures are those of their beats.
  sum_measures : (k : ℕ) → k ≤ length measures
      → sum (take k (lengths sections measures)) ≡ sum_before (lasts sections measures) (sum (take k (map beat_count measures)))
  unfolding sum sum_before
  sum_measures zero l = refl
  sum_measures (suc k) l =
      let before = sum (take k (map beat_count measures)) in
      let word = get_or measures k 0 in
      let f = (joined_parts sections measures joins).1 in
      let first = first_is 0 measures f k (omega arith) in
      let all = length-map measures beat_count in
      let many = as_many in
      let h = sum_measures k (omega arith) in
      let a = sum_next (lengths sections measures) k (omega arith) in
      let b = sum_next (map beat_count measures) k (omega arith) ∙ ap (λ n. before + n) (count_at measures k (omega arith)) in
      let c = measure_lasts 0 sections measures covered k (omega arith) in
      let d =
      sum_stretch (lasts sections measures) before (beat_count word) (beat_length (bpm_of sections (0 + k)))
      (λ j m. found k (before + j) (omega arith) (omega arith) (omega arith)) in
      rw b (omega (arith, a, c, d, h))

  pub start_by_beats : (k : ℕ) → k < length measures
      → sum (take k (lengths sections measures)) ≡ sum_before (lasts sections measures) (first_beat (get_or measures k 0))
  start_by_beats k l =
      let e = first_is 0 measures (joined_parts sections measures joins).1 k l in
      sum_measures k (omega arith) ∙ ap (λ n. sum_before (lasts sections measures) n) (omega arith)

  pub end_by_beats : sum (lengths sections measures) ≡ sum_before (lasts sections measures) (sum (map beat_count measures))
  end_by_beats =
      let many = as_many in
      let all = length-map measures beat_count in
      let h = sum_measures (length measures) (omega arith) in
      let a = take_all (length measures) (lengths sections measures) (omega arith) in
      let b = take_all (length measures) (map beat_count measures) (omega arith) in
      cc
