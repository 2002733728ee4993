-- A `$n` stands alone only as the first token, with none behind it.
use Prim.Native.Nat.{ℕ}
use mathlib.Core.Path.{◌≡◌, refl, sym}
use mathlib.Core.List.{List, [], ◌∷◌}
use mathlib.Core.Bool.{Bool, true, false}
use native.Mathlib.Omega.{arith}
use lib.Dec.{eqb, leb}
use Rattle.songcode.specs.Lists.{provided◌then◌else◌, is_some}
use Rattle.songcode.specs.Answer.Tokens.{Token, sound, remover, reference, semicolon, colon, line_end, opens, closes, wrong}
use Rattle.songcode.specs.Answer.PatternText.{whole_reference, loops_deep}
use Rattle.songcode.proofs.ListLaws.{by_cases}
use Rattle.grammar.specs.declared.kinds.Kind.{Kind}
use Rattle.grammar.specs.declared.checks.Place.{Place}
use Rattle.grammar.specs.declared.checks.Place.TheVariants.{Fresh, Wants, Joins, Sounds, Removed, Alone, Full, Ended, Bad}
use Rattle.grammar.specs.declared.checks.Check.{Check}
use Rattle.grammar.specs.Kinds.{kind_of, kinds_of}
use Rattle.grammar.specs.Places.{next_place}
use Rattle.grammar.specs.Checks.{check, first, spoiled, opened, closed, is_bad, arrived, check_step, check_run}
use Rattle.grammar.specs.Verdicts.{is_alone}
use Rattle.grammar.proofs.ArmLaws.{of_kind}

-- Places where something stands before the item at hand, or the item is no `$n`.
unfoldable pub is_late : Place → Bool
is_late Fresh = false
is_late Alone = false
is_late Wants = true
is_late Joins = true
is_late Sounds = true
is_late Removed = true
is_late Full = true
is_late Ended = true
is_late Bad = true

abbrev Late : Check → Type 0
Late c = is_late c.place ≡ true

pub late_opened : (c : Check) → Late (opened c)
unfolding opened provided◌then◌else◌ is_late
late_opened c = by_cases (leb loops_deep c.loops) (λ t. simp t) (λ t. simp t)

pub late_closed : (c : Check) → Late (closed c)
unfolding closed provided◌then◌else◌ is_late
late_closed c = by_cases (eqb c.loops 0) (λ t. simp t) (λ t. simp t)

late_arrived : (c : Check) (p : Place) → is_late p ≡ true → (k : Kind) → Late (arrived c p k)
unfolding arrived
late_arrived c p h = of_kind (λ k. Late (arrived c p k)) h h h h h h (late_opened c) (late_closed c) h

-- A step that leads to a late place, or nowhere, leads to a late check.
late_step : (c : Check) (k : Kind) → is_late (next_place c.place k) ≡ true → Late (check_step c k)
unfolding check_step provided◌then◌else◌ is_late
late_step c k h = by_cases (is_bad (next_place c.place k)) (λ t. simp t) (λ t. simp t (late_arrived c (next_place c.place k) h k))

alone_late : (k : Kind) → is_late (next_place Alone k) ≡ true
unfolding is_late
alone_late = of_kind (λ k. is_late (next_place Alone k) ≡ true) refl refl refl refl refl refl refl refl refl

place_late : (p : Place) → is_late p ≡ true → (k : Kind) → is_late (next_place p k) ≡ true
unfolding is_late
place_late Wants h = of_kind (λ k. is_late (next_place Wants k) ≡ true) refl refl refl refl refl refl refl refl refl
place_late Joins h = of_kind (λ k. is_late (next_place Joins k) ≡ true) refl refl refl refl refl refl refl refl refl
place_late Sounds h = of_kind (λ k. is_late (next_place Sounds k) ≡ true) refl refl refl refl refl refl refl refl refl
place_late Removed h = of_kind (λ k. is_late (next_place Removed k) ≡ true) refl refl refl refl refl refl refl refl refl
place_late Full h = of_kind (λ k. is_late (next_place Full k) ≡ true) refl refl refl refl refl refl refl refl refl
place_late Ended h = of_kind (λ k. is_late (next_place Ended k) ≡ true) refl refl refl refl refl refl refl refl refl
place_late Bad h = of_kind (λ k. is_late (next_place Bad k) ≡ true) refl refl refl refl refl refl refl refl refl
place_late Fresh h = let z : ◌≡◌ {A = ℕ} 0 1 = cc in absurd (omega arith)
place_late Alone h = let z : ◌≡◌ {A = ℕ} 0 1 = cc in absurd (omega arith)

late_run : (c : Check) (ks : List Kind) → Late c → Late (check_run c ks)
unfolding check_run check_step
late_run c [] h = h
late_run c (k ∷ ks) h = late_run (check_step c k) ks (late_step c k (place_late c.place h k))

not_alone : (p : Place) → is_late p ≡ true → is_alone p ≡ false
unfolding is_late
not_alone Wants h = refl
not_alone Joins h = refl
not_alone Sounds h = refl
not_alone Removed h = refl
not_alone Full h = refl
not_alone Ended h = refl
not_alone Bad h = refl
not_alone Fresh h = refl
not_alone Alone h = sym h

pub late_is_not_alone : (c : Check) (ks : List Kind) → Late c → is_alone (check_run c ks).place ≡ false
late_is_not_alone c ks h = not_alone (check_run c ks).place (late_run c ks h)

pub alone_is_whole : (ts : List Token) → is_alone (check_run first (kinds_of ts)).place ≡ is_some (whole_reference ts)
unfolding check_run check_step kinds_of kind_of whole_reference is_some is_late
alone_is_whole [] = refl
alone_is_whole (reference n ∷ []) = refl
alone_is_whole (reference n ∷ t ∷ ts) = late_is_not_alone (check_step (check Alone 0 true) (kind_of t)) (kinds_of ts)
    (late_step (check Alone 0 true) (kind_of t) (alone_late (kind_of t)))
alone_is_whole (sound s ∷ ts) = late_is_not_alone (check Sounds 0 false) (kinds_of ts) refl
alone_is_whole (opens ∷ ts) = late_is_not_alone (opened first) (kinds_of ts) (late_opened first)
alone_is_whole (remover ∷ ts) = late_is_not_alone spoiled (kinds_of ts) refl
alone_is_whole (semicolon ∷ ts) = late_is_not_alone spoiled (kinds_of ts) refl
alone_is_whole (colon ∷ ts) = late_is_not_alone spoiled (kinds_of ts) refl
alone_is_whole (line_end ∷ ts) = late_is_not_alone spoiled (kinds_of ts) refl
alone_is_whole (closes n ∷ ts) = late_is_not_alone spoiled (kinds_of ts) refl
alone_is_whole (wrong ∷ ts) = late_is_not_alone spoiled (kinds_of ts) refl
