-- Everything that is promised of the second call.
use Prim.Native.Nat.pow
use Prim.Native.Nat.{ℕ, zero, suc, ◌+◌, ◌^◌, ◌<◌, ◌≤◌}
use mathlib.Core.Path.{◌≡◌, refl, ap, sym, ◌∙◌}
use mathlib.Core.Logic.{◌↔◌}
use mathlib.Core.List.{List, map}
use mathlib.Core.Bool.{true}
use mathlib.Core.Option.{Option, none, some}
use native.Mathlib.Omega.{arith}
use lib.Pow.{pow_pos}
use lib.Dec.{leb, ltb}
use lib.ListN.{length, get_or, replicate, length-replicate}
use borrow.Author.Tests.{lt-ltb, le-ltb, leb-true, leb-false, ltb-true, ltb-false}
use Rattle.songcode.specs.Lists.{provided◌then◌else◌}
use Rattle.songcode.specs.Description.Joined.{first_beat, beat_count, end_beat, follows}
use Rattle.songcode.specs.Answer.Finding.{Jump, half, nowhere, halving, most_records, jump_to}
use Rattle.songcode.specs.Jumps.{Holds, Halves, empty, held, before, past, FirstHolding, trials, Jumps}
use Rattle.songcode.proofs.ListLaws.{by_cases}
use Rattle.songcode.proofs.PatternLaws.{none_some}
use Rattle.songcode.proofs.FollowLaws.{in_order, one_holds}
use Rattle.songcode.proofs.HalvingAgree.{half_inside, halving_sound, halving_complete, few_probes}

-- Whatever the table, the record that is found holds the beat.
found_holds : (beat : ℕ) (table : List ℕ) {start end place probes : ℕ} {found : Option ℕ} → Halves beat table start end found probes → found ≡ some place
    → (place < end) × Holds beat (get_or table place 0)
found_holds beat table (empty l) f = none_some refl f
found_holds beat table {place = p} (held {place = q} l e h) f =
    let z : q ≡ p = cc (f) in
    let i = half_inside l e in rw (← z) (i.1, h)
found_holds beat table (before l e b r) f =
    let i = half_inside l e in
    let g = found_holds beat table r f in (omega arith, g.1)
found_holds beat table (past l e b r) f = found_holds beat table r f

-- Where records follow on one another, a record in the range that holds the beat is found.
module _ (first beat : ℕ) (table : List ℕ) (f : follows first table ≡ true) where
  same_place : (i j : ℕ) → i < length table → j < length table → Holds beat (get_or table i 0) → Holds beat (get_or table j 0) → i ≡ j
  same_place i j l m h g =
      by_cases (ltb i j)
      (λ e. absurd (one_holds first table f beat i j (ltb-true i j e) m h g))
      (λ e. by_cases (ltb j i)
      (λ d. absurd (one_holds first table f beat j i (ltb-true j i d) l g h))
      (λ d. let x = ltb-false i j e in
      let y = ltb-false j i d in omega arith))

  holder_found : {start end probes : ℕ} {found : Option ℕ} → Halves beat table start end found probes → end ≤ length table → (place : ℕ) → start ≤ place
      → place < end → Holds beat (get_or table place 0) → found ≡ some place
  unfolding Holds
  holder_found (empty l) n place a b h = absurd (omega arith)
  holder_found (held {place = q} l e g) n place a b h =
      let i = half_inside l e in ap (λ x. some x) (same_place q place (omega arith) (omega arith) g h)
  holder_found (before {place = q} l e g r) n place a b h =
      let i = half_inside l e in
      by_cases (ltb place q)
      (λ t. holder_found r (omega arith) place a (ltb-true place q t) h)
      (λ t. let o = in_order first table f q place (ltb-false place q t) (omega arith) in absurd (omega (arith, h.0, o.0)))
  holder_found (past {place = q} l e g r) n place a b h =
      let i = half_inside l e in
      by_cases (leb place q)
      (λ t. let o = in_order first table f place q (leb-true place q t) (omega arith) in absurd (omega (arith, h.1, o.1)))
      (λ t. holder_found r n place (leb-false place q t) b h)

module _ (beat : ℕ) (table : List ℕ) where
  jump_short : length table ≤ 65535 → jump_to beat table ≡ halving (length table) beat table 0 (length table)
  unfolding jump_to most_records provided◌then◌else◌
  jump_short l = rw (le-ltb 65535 (length table) l)

  too_long : 65535 < length table → jump_to beat table ≡ record { place = none; probes = 0 }
  unfolding jump_to most_records nowhere provided◌then◌else◌
  too_long l = rw (lt-ltb 65535 (length table) l)

  jump_sound : length table ≤ 65535 → Halves beat table 0 (length table) (jump_to beat table).place (jump_to beat table).probes
  jump_sound l = rw (jump_short l) (halving_sound beat table (length table) 0 (length table) (omega arith))

  halved : length table ≤ 65535 → (place : Option ℕ) (probes : ℕ)
      → (jump_to beat table ≡ record { place = place; probes = probes }) ↔ Halves beat table 0 (length table) place probes
  halved l place probes = (
    λ e. rw (ap (λ (j : Jump). j.place) (sym e), ap (λ (j : Jump). j.probes) (sym e)) (jump_sound l),
    λ h. jump_short l ∙ halving_complete beat table h (length table) (omega arith),
  )

  at_most_16 : (jump_to beat table).probes ≤ 16
  at_most_16 =
      by_cases (leb (length table) 65535)
      (λ e. let l = leb-true (length table) 65535 e in few_probes beat table (jump_sound l) 16 (omega arith))
      (λ e. rw (too_long (leb-false (length table) 65535 e)) (omega arith))

-- In a table of records without beats every record is passed; a range of one record less than a power of two then takes all the probes
-- that it may.
abbrev zeros : ℕ → List ℕ
zeros n = replicate n 0

zero_read : (n place : ℕ) → get_or (zeros n) place 0 ≡ 0
zero_read zero place = refl
zero_read (suc n) zero = refl
zero_read (suc n) (suc place) = zero_read n place

all_passed : (n k start end : ℕ) → suc end ≡ start + 2 ^ k → Halves 0 (zeros n) start end none k
unfolding half end_beat first_beat beat_count
all_passed n zero start end e = empty {start = start} {end = end} (omega arith)
all_passed n (suc k) start end e =
    let p = pow.suc 2 k in
    let q : 1 ≤ 2 ^ k = pow_pos k in
    past {start = start} {end = end} {place = half start end} (omega arith) refl (rw (zero_read n (half start end)) (omega arith))
    (all_passed n k (suc (half start end)) end (omega arith))

sixteen_made : (jump_to 0 (zeros 65535)).probes ≡ 16
sixteen_made =
    let l : length (zeros 65535) ≡ 65535 = length-replicate {A = ℕ} 65535 0 in
    ap (λ (j : Jump). j.probes) ((halved 0 (zeros 65535) (omega arith) none 16).1 (rw l (all_passed 65535 16 0 65535 (omega arith))))

module _ (first beat : ℕ) (table : List ℕ) (l : length table ≤ 65535) (f : follows first table ≡ true) where
  as_before : (place : ℕ) → ((jump_to beat table).place ≡ some place) ↔ FirstHolding beat table place
  as_before place = (
    λ e.
        let g = found_holds beat table (jump_sound beat table l) e in
        record {
          inside = g.0;
          held = g.1;
          none_before = λ earlier b h. one_holds first table f beat earlier place b g.0 h g.1;
        },
    λ h. holder_found first beat table f (jump_sound beat table l) (omega arith) place (omega arith) h.inside h.held,
  )

  none_as_before : ((jump_to beat table).place ≡ none) ↔ ((place : ℕ) → place < length table → Holds beat (get_or table place 0) → ⊥)
  none_as_before = (
    λ e place b h. none_some e (holder_found first beat table f (jump_sound beat table l) (omega arith) place (omega arith) b h),
    λ n. go (jump_to beat table).place (λ place e. let g = found_holds beat table (jump_sound beat table l) e in n place g.0 g.1),
  )
    where
      go : (o : Option ℕ) → ((place : ℕ) → o ≡ some place → ⊥) → o ≡ none
      go none h = refl
      go (some p) h = absurd (h p refl)

tried : map (λ t. jump_to t.beat t.table) trials ≡ map (λ t. t.found) trials
unfolding trials jump_to
tried = refl

pub jumps_proved : Jumps
jumps_proved =
    record {
      halved = halved;
      too_long = too_long;
      at_most_16 = at_most_16;
      sixteen_made = sixteen_made;
      as_before = as_before;
      none_as_before = none_as_before;
      tried = tried;
    }
