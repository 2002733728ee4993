-- The search gives what the halving rule describes, and nothing else; no more probes than the range can be halved.
use Prim.Native.Nat.pow
use Prim.Native.Nat.{ℕ, zero, suc, ◌+◌, ◌^◌, ◌<◌, ◌≤◌}
use mathlib.Core.Path.{◌≡◌, refl}
use mathlib.Core.List.{List}
use mathlib.Core.Option.{Option, some}
use native.Mathlib.Omega.{arith}
use lib.Dec.{leb, ltb}
use lib.ListN.{get_or}
use borrow.Author.Tests.{leb-true, leb-false, ltb-true, ltb-false, le-leb, lt-leb, lt-ltb, le-ltb}
use Rattle.songcode.specs.Lists.{provided◌then◌else◌}
use Rattle.songcode.specs.Description.Joined.{first_beat, end_beat}
use Rattle.songcode.specs.Answer.Finding.{Jump, nowhere, probed, is_before, is_past, half, halving}
use Rattle.songcode.specs.Jumps.{Holds, Halves, empty, held, before, past}
use Rattle.songcode.proofs.ListLaws.{by_cases}
use Rattle.songcode.proofs.FollowLaws.{end_is}

-- Half the sum of both ends of a range that is not empty lies in it.
pub half_inside : {start end place : ℕ} → start < end → place ≡ half start end → (start ≤ place) × (place < end)
unfolding half
half_inside l e = (omega arith, omega arith)

module _ (beat : ℕ) (table : List ℕ) where
  abbrev Right : ℕ → ℕ → Jump → Type 0
  Right start end j = Halves beat table start end j.place j.probes

  -- A record is read: what the rest of the search gives, before it or past it, is given with one probe more.
  step : (start end : ℕ) (low high : Jump) → start < end → Right start (half start end) low → Right (suc (half start end)) end high
      → Right start end (probed (provided is_before beat (get_or table (half start end) 0) then low
      else (provided is_past beat (get_or table (half start end) 0) then high else record { place = some (half start end); probes = 0 })))
  unfolding probed is_before is_past provided◌then◌else◌ Holds
  step start end low high m l h =
      by_cases (ltb beat (first_beat (get_or table (half start end) 0)))
      (λ e. rw e (before m refl (ltb-true beat (first_beat (get_or table (half start end) 0)) e) l))
      (λ e. by_cases (leb (end_beat (get_or table (half start end) 0)) beat)
      (λ f. rw (e, f) (past m refl (leb-true (end_beat (get_or table (half start end) 0)) beat f) h))
      (λ f. rw (e, f)
      (held m refl (ltb-false beat (first_beat (get_or table (half start end) 0)) e, leb-false (end_beat (get_or table (half start end) 0)) beat f))))

  pub halving_sound : (turns start end : ℕ) → end ≤ start + turns → Right start end (halving turns beat table start end)
  unfolding halving nowhere provided◌then◌else◌
  halving_sound zero start end l = empty {start = start} {end = end} (omega arith)
  halving_sound (suc turns) start end l =
      by_cases (leb end start)
      (λ e. rw e (empty (leb-true end start e)))
      (λ e.
      let m = leb-false end start e in
      let h = half_inside {place = half start end} m refl in
      rw e
      (step start end (halving turns beat table start (half start end)) (halving turns beat table (suc (half start end)) end) m
      (halving_sound turns start (half start end) (omega arith))
      (halving_sound turns (suc (half start end)) end (omega arith))))

  pub halving_complete : {start end probes : ℕ} {found : Option ℕ} → Halves beat table start end found probes → (turns : ℕ) → end ≤ start + turns
      → halving turns beat table start end ≡ record { place = found; probes = probes }
  unfolding halving nowhere probed is_before is_past provided◌then◌else◌ Holds
  halving_complete (empty l) zero t = refl
  halving_complete {start} {end} (empty l) (suc turns) t = rw (le-leb end start l)
  halving_complete (held l e h) zero t = absurd (omega arith)
  halving_complete {start} {end} (held l e h) (suc turns) t =
      rw (← e, lt-leb end start l, le-ltb beat _ h.0, lt-leb _ beat h.1)
  halving_complete (before l e b r) zero t = absurd (omega arith)
  halving_complete {start} {end} (before l e b r) (suc turns) t =
      let h = half_inside l e in
      rw (← e, lt-leb end start l, lt-ltb beat _ b, halving_complete r turns (omega arith))
  halving_complete (past l e b r) zero t = absurd (omega arith)
  halving_complete {start} {end} (past {place = place} l e b r) (suc turns) t =
      let h = half_inside l e in
      let i = end_is (get_or table place 0) in
      rw (← e, lt-leb end start l, le-ltb beat (first_beat (get_or table place 0)) (omega arith), le-leb _ beat b, halving_complete r turns (omega arith))

  -- A range shorter than a power of two takes no more probes than the power says.
  pub few_probes : {start end probes : ℕ} {found : Option ℕ} → Halves beat table start end found probes → (k : ℕ) → end < start + 2 ^ k → probes ≤ k
  unfolding half
  few_probes (empty l) k t = omega arith
  few_probes (held l e h) zero t = absurd (omega arith)
  few_probes (held l e h) (suc k) t = omega arith
  few_probes (before l e b r) zero t = absurd (omega arith)
  few_probes (before l e b r) (suc k) t =
      let p = pow.suc 2 k in
      let i = few_probes r k (omega arith) in
      omega arith
  few_probes (past l e b r) zero t = absurd (omega arith)
  few_probes (past l e b r) (suc k) t =
      let p = pow.suc 2 k in
      let i = few_probes r k (omega arith) in
      omega arith
