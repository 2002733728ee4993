-- N and bpm: what the code finds from the section's keys and the song's is what the definitions say, and lies in its range.
use Prim.Native.Nat.{ℕ, ◌≤◌}
use mathlib.Core.Path.{◌≡◌, refl}
use mathlib.Core.List.{List}
use mathlib.Core.Option.{Option, none, some, get_or, bind}
use native.Mathlib.Omega.{arith}
use lib.Dec.{eqb}
use borrow.Author.Tests.{ne_eqb}
use Rattle.songcode.specs.Lists.{provided◌then◌else◌}
use Rattle.songcode.specs.Bytes.{Byte}
use Rattle.songcode.specs.Song.{bpm, time, Key, Section, Song}
use Rattle.songcode.specs.Answer.Keys.{bpm_in, time_in}
use Rattle.songcode.specs.Answer.Playing.{setting_named, time_among, time_of, bpm_among, bpm_of}
use Rattle.songcode.proofs.ListLaws.{by_cases}
use Rattle.songcode.proofs.PatternLaws.{none_some}
use Rattle.songcode.proofs.SettingAgree.{time_exact}
use Rattle.settings.proofs.NumberLaws.{number_in_range}
use Rattle.laying.specs.Rows.{meter_of, tempo_of}

-- A time that keys say is from 1 to 32.
pub time_range : (ks : List Key) (n : ℕ) → time_among ks ≡ some n → (1 ≤ n) × (n ≤ 32)
unfolding time_among bind
time_range ks n e = go (setting_named time ks) e
  where
    go : (o : Option (List Byte)) → bind o time_in ≡ some n → (1 ≤ n) × (n ≤ 32)
    go none h = none_some refl h
    go (some bs) h = let q = ((time_exact bs n).0 h).number in (q.at_least, q.at_most)

abbrev Ranged : Option ℕ → Type 0
Ranged o = (n : ℕ) → o ≡ some n → (1 ≤ n) × (n ≤ 32)

pub time_fits : (ks : List Key) → get_or (time_among ks) 0 ≤ 32
time_fits ks = go (time_among ks) (time_range ks)
  where
    go : (o : Option ℕ) → Ranged o → get_or o 0 ≤ 32
    go none h = omega arith
    go (some n) h = (h n refl).1

-- "N is the section's time, else the song's"; 0 stands for none.
pub meter_is : (s : Song) (x : Section) {own song : ℕ} → own ≡ get_or (time_among x.keys) 0 → song ≡ get_or (time_among s.keys) 0
    → meter_of own song ≡ time_of s x
unfolding meter_of time_of provided◌then◌else◌
meter_is s x e f = rw (e, f) (go (time_among x.keys) (time_among s.keys) (time_range x.keys) (time_range s.keys))
  where
    go : (o p : Option ℕ) → Ranged o → Ranged p → (provided eqb (get_or o 0) 0 then (provided eqb (get_or p 0) 0 then 4 else get_or p 0) else get_or o
        0) ≡ get_or o (get_or p 4)
    go none none a b = refl
    go none (some n) a b = let h = (b n refl).0 in rw (ne_eqb n 0 (λ z. omega arith))
    go (some m) p a b = let h = (a m refl).0 in rw (ne_eqb m 0 (λ z. omega arith))

pub meter_range : (s : Song) (x : Section) → (1 ≤ time_of s x) × (time_of s x ≤ 32)
unfolding time_of
meter_range s x = go (time_among x.keys) (time_among s.keys) (time_range x.keys) (time_range s.keys)
  where
    go : (o p : Option ℕ) → Ranged o → Ranged p → (1 ≤ get_or o (get_or p 4)) × (get_or o (get_or p 4) ≤ 32)
    go none none a b = (omega arith, omega arith)
    go none (some n) a b = b n refl
    go (some m) p a b = a m refl

-- A bpm that keys say is at most 400.
bpm_few : (ks : List Key) (n : ℕ) → bpm_among ks ≡ some n → n ≤ 400
unfolding bpm_among bind bpm_in
bpm_few ks n e = go (setting_named bpm ks) e
  where
    go : (o : Option (List Byte)) → bind o bpm_in ≡ some n → n ≤ 400
    go none h = none_some refl h
    go (some bs) h = (number_in_range 0 400 bs h).1

-- "bpm (section's, else song's, else 511)"
pub tempo_is : (s : Song) (x : Section) {own song : ℕ} → own ≡ get_or (bpm_among x.keys) 511 → song ≡ get_or (bpm_among s.keys) 511
    → tempo_of own song ≡ bpm_of s x
unfolding tempo_of bpm_of provided◌then◌else◌
tempo_is s x e f = rw (e, f) (go (bpm_among x.keys) (get_or (bpm_among s.keys) 511) (bpm_few x.keys))
  where
    go : (o : Option ℕ) (k : ℕ) → ((n : ℕ) → o ≡ some n → n ≤ 400) → (provided eqb (get_or o 511) 511 then k else get_or o 511) ≡ get_or o k
    go none k h = refl
    go (some n) k h = let g = h n refl in rw (ne_eqb n 511 (λ z. let y : ⊥ = omega arith in absurd y))

pub tempo_few : (own song : ℕ) → own ≤ 511 → song ≤ 511 → tempo_of own song ≤ 511
unfolding tempo_of provided◌then◌else◌
tempo_few own song h k = by_cases (eqb own 511) (λ e. rw e k) (λ e. rw e h)
