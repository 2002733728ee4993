-- What is heard of a text is its first stray `%`.
use Prim.Native.Nat.{ℕ, ◌≤◌, ◌<◌}
use mathlib.Core.Path.{◌≡◌, refl, sym, ap, ◌∙◌, subst}
use mathlib.Core.Logic.{◌⊎◌, inl, inr, ⊎_elim}
use mathlib.Core.List.{List, [], ◌∷◌, ◌++◌, head-eq_of_cons-eq, tail-eq_of_cons-eq}
use mathlib.Core.Bool.{true, false}
use native.Mathlib.Omega.{arith}
use lib.Dec.{ltb, eqb}
use borrow.Author.Tests.{lt-ltb, le-ltb, ne_eqb}
use Rattle.songcode.specs.Lists.{provided◌then◌else◌}
use Rattle.songcode.specs.Answer.Chords.{Chord}
use Rattle.songcode.specs.Song.{chord, again, silence}
use Rattle.songcode.specs.Answer.Tokens.{Token, sound, remover, reference, semicolon, colon, line_end, opens, closes, wrong}
use Rattle.songcode.proofs.ListLaws.{by_cases, true_is_not_false}
use Rattle.tokens.specs.Fitting.{Fit, kind}
use Rattle.slips.specs.declared.readings.Stray.{Stray}
use Rattle.slips.specs.declared.readings.Stray.TheVariants.{Unheard, Sounded, Found}
use Rattle.slips.specs.Marks.{Mark}
use Rattle.slips.specs.Strays.{Silent, AllSilent, StrayAt, is_settled, is_found, stray_place, settling, hearing, heard, hearing_sign}

-- A token's kind says as much as the token.
settling_sign : (t : Token) (from : ℕ) → Fit t → hearing_sign Unheard (kind t) from ≡ settling t from
unfolding hearing_sign settling kind provided◌then◌else◌ Fit
settling_sign (sound (chord c)) from f = rw (lt-ltb c.base 34 (omega (arith, f.0)))
settling_sign (sound again) from f = refl
settling_sign (sound silence) from f = refl
settling_sign remover from f = refl
settling_sign (reference n) from f = refl
settling_sign semicolon from f = refl
settling_sign colon from f = refl
settling_sign line_end from f = refl
settling_sign opens from f = refl
settling_sign (closes n) from f = refl
settling_sign wrong from f = refl

pub hearing_sign_lem : (x : Stray) (t : Token) (from : ℕ) → Fit t → hearing_sign x (kind t) from ≡ hearing x t from
unfolding hearing hearing_sign
hearing_sign_lem Unheard t from f = settling_sign t from f
hearing_sign_lem Sounded t from f = refl
hearing_sign_lem (Found p) t from f = refl

pub sign_within : (x : Stray) (k from : ℕ) → from ≤ 65536 → stray_place x ≤ 65536 → stray_place (hearing_sign x k from) ≤ 65536
unfolding hearing_sign provided◌then◌else◌
sign_within Unheard k from a b =
    by_cases (ltb k 34) (λ i. rw i (omega arith)) (λ i. by_cases (eqb k 62) (λ j. rw (i, j) a) (λ j. rw (i, j) (omega arith)))
sign_within Sounded k from a b = b
sign_within (Found p) k from a b = b

-- The same case by case, as the code tells them apart.
pub sign_kept : (x : Stray) (k from : ℕ) → (x ≡ Unheard → ⊥) → x ≡ hearing_sign x k from
unfolding hearing_sign
sign_kept Unheard k from h = absurd (h refl)
sign_kept Sounded k from h = refl
sign_kept (Found p) k from h = refl

module _ (k from : ℕ) where
  pub sign_heard : k < 34 → Sounded ≡ hearing_sign Unheard k from
  unfolding hearing_sign provided◌then◌else◌
  sign_heard l = rw (lt-ltb k 34 l) refl

  pub sign_again : k ≡ 62 → Found from ≡ hearing_sign Unheard k from
  unfolding hearing_sign provided◌then◌else◌
  sign_again e = rw e refl

  pub sign_other : 34 ≤ k → (k ≡ 62 → ⊥) → Unheard ≡ hearing_sign Unheard k from
  unfolding hearing_sign provided◌then◌else◌
  sign_other l e = rw (le-ltb k 34 l, ne_eqb k 62 e) refl

pub heard_behind : (x : Stray) (ms ns : List Mark) → heard x (ms ++ ns) ≡ heard (heard x ms) ns
unfolding heard
heard_behind x [] ns = refl
heard_behind x (m ∷ ms) ns = heard_behind (hearing x m.token m.from) ms ns

-- Once it is settled nothing changes.
pub settled : (x : Stray) (ms : List Mark) → is_settled x ≡ true → heard x ms ≡ x
unfolding heard hearing
settled x [] h = refl
settled Unheard (m ∷ ms) h = true_is_not_false h refl
settled Sounded (m ∷ ms) h = settled Sounded ms h
settled (Found p) (m ∷ ms) h = settled (Found p) ms h

quiet : (t : Token) (from : ℕ) → Silent t → settling t from ≡ Unheard
unfolding settling Silent
quiet (sound (chord c)) from h = absurd h
quiet (sound again) from h = absurd h
quiet (sound silence) from h = refl
quiet remover from h = refl
quiet (reference n) from h = refl
quiet semicolon from h = refl
quiet colon from h = refl
quiet line_end from h = refl
quiet opens from h = refl
quiet (closes n) from h = refl
quiet wrong from h = refl

still : (x : Stray) (t : Token) (from : ℕ) → Silent t → hearing x t from ≡ x
unfolding hearing
still Unheard t from h = quiet t from h
still Sounded t from h = refl
still (Found p) t from h = refl

pub all_still : (x : Stray) (ms : List Mark) → AllSilent ms → heard x ms ≡ x
unfolding heard AllSilent
all_still x [] h = refl
all_still x (m ∷ ms) h = ap (λ (y : Stray). heard y ms) (still x m.token m.from h.0) ∙ all_still x ms h.1

abbrev Sorted : Token → Type 0
Sorted t = Silent t ⊎ ((t ≡ sound again) ⊎ ((c : Chord) × (t ≡ sound (chord c))))

sorted : (t : Token) → Sorted t
unfolding Silent
sorted (sound (chord c)) = inr (inr (c, refl))
sorted (sound again) = inr (inl refl)
sorted (sound silence) = inl tt
sorted remover = inl tt
sorted (reference n) = inl tt
sorted semicolon = inl tt
sorted colon = inl tt
sorted line_end = inl tt
sorted opens = inl tt
sorted (closes n) = inl tt
sorted wrong = inl tt

-- A chord or a `%` settles it; other tokens change nothing.
abbrev pub Settled : Stray → Type 0
Settled x = is_settled x ≡ true

settles : (x : Stray) (t : Token) (from : ℕ) → Settled (settling t from) → Settled (hearing x t from)
unfolding hearing
settles Unheard t from h = h
settles Sounded t from h = refl
settles (Found p) t from h = refl

pub settled_or_silent : (x : Stray) (ms : List Mark) → Settled (heard x ms) ⊎ AllSilent ms
unfolding heard AllSilent settling
settled_or_silent x [] = inr tt
settled_or_silent x (m ∷ ms) =
    ⊎_elim
    (λ h.
    ⊎_elim
    (λ i. inl (subst (λ (y : Stray). Settled (heard y ms)) (sym (still x m.token m.from h)) i))
    (λ i. inr (h, i))
    (settled_or_silent x ms))
    (λ r.
    ⊎_elim
    (λ h. inl (stays (settles x m.token m.from (rw h refl))))
    (λ h. inl (stays (settles x m.token m.from (rw h.1 refl))))
    r)
    (sorted m.token)
  where
    stays : Settled (hearing x m.token m.from) → Settled (heard (hearing x m.token m.from) ms)
    stays h = subst Settled (sym (settled _ ms h)) h

again_not_silent : (t : Token) → t ≡ sound again → Silent t → ⊥
unfolding Silent
again_not_silent t e h = subst Silent e h

chord_not_silent : (t : Token) (c : Chord) → t ≡ sound (chord c) → Silent t → ⊥
unfolding Silent
chord_not_silent t c e h = subst Silent e h

module _ (m : Mark) (ms : List Mark) where
  further : (from : ℕ) → Silent m.token → StrayAt ms from → StrayAt (m ∷ ms) from
  unfolding AllSilent
  further from h x =
      record {
        front = m ∷ x.front;
        here = x.here;
        behind = x.behind;
        text = ap (λ (ns : List Mark). m ∷ ns) x.text;
        silent = (h, x.silent);
        again = x.again;
        place = x.place;
      }

  nearer : (from : ℕ) → Silent m.token → StrayAt (m ∷ ms) from → StrayAt ms from
  unfolding AllSilent
  nearer from h x = go x.front x.text x.silent
    where
      go : (front : List Mark) → m ∷ ms ≡ front ++ (x.here ∷ x.behind) → AllSilent front → StrayAt ms from
      go [] e s = absurd (again_not_silent m.token (ap (λ (k : Mark). k.token) (head-eq_of_cons-eq e) ∙ x.again) h)
      go (k ∷ front) e s =
          record {
            front = front;
            here = x.here;
            behind = x.behind;
            text = tail-eq_of_cons-eq e;
            silent = s.1;
            again = x.again;
            place = x.place;
          }

  at_once : m.token ≡ sound again → StrayAt (m ∷ ms) m.from
  unfolding AllSilent
  at_once e = record { front = []; here = m; behind = ms; text = refl; silent = tt; again = e; place = refl }

  not_behind : (c : Chord) → m.token ≡ sound (chord c) → (from : ℕ) → StrayAt (m ∷ ms) from → ⊥
  unfolding AllSilent
  not_behind c t from x = go x.front x.text x.silent
    where
      go : (front : List Mark) → m ∷ ms ≡ front ++ (x.here ∷ x.behind) → AllSilent front → ⊥
      go [] e s =
          let a : sound again ≡ sound (chord c) = sym x.again ∙ sym (ap (λ (k : Mark). k.token) (head-eq_of_cons-eq e)) ∙ t in
          let z : ◌≡◌ {A = ℕ} 0 1 = cc in
          let y : ⊥ = omega arith in
          y
      go (k ∷ front) e s = chord_not_silent k.token c (ap (λ (j : Mark). j.token) (sym (head-eq_of_cons-eq e)) ∙ t) s.0

abbrev pub Outcome : List Mark → Stray → Type 0
Outcome ms y = (is_found y ≡ true → StrayAt ms (stray_place y)) × (is_found y ≡ false → (from : ℕ) → StrayAt ms from → ⊥)

nowhere : (from : ℕ) → StrayAt [] from → ⊥
nowhere from x = go x.front x.text
  where
    go : (front : List Mark) → [] ≡ front ++ (x.here ∷ x.behind) → ⊥
    go [] e =
        let z : ◌≡◌ {A = ℕ} 0 1 = cc in
        let y : ⊥ = omega arith in
        y
    go (k ∷ front) e =
        let z : ◌≡◌ {A = ℕ} 0 1 = cc in
        let y : ⊥ = omega arith in
        y

pub stray_heard : (ms : List Mark) → Outcome ms (heard Unheard ms)
unfolding heard hearing settling
stray_heard [] = (λ e. true_is_not_false e refl, λ e from x. nowhere from x)
stray_heard (m ∷ ms) =
    ⊎_elim
    (λ h.
    let i = stray_heard ms in
    let e : heard (hearing Unheard m.token m.from) ms ≡ heard Unheard ms = ap (λ (y : Stray). heard y ms) (still Unheard m.token m.from h) in
    subst (Outcome (m ∷ ms)) (sym e) (λ f. further m ms _ h (i.0 f), λ f from x. i.1 f from (nearer m ms from h x)))
    (λ r.
    ⊎_elim
    (λ h. sounded h)
    (λ h. charmed h.0 h.1)
    r)
    (sorted m.token)
  where
    sounded : m.token ≡ sound again → Outcome (m ∷ ms) (heard (hearing Unheard m.token m.from) ms)
    sounded h =
        let y : Stray = Found m.from in
        let e : heard (hearing Unheard m.token m.from) ms ≡ y = ap (λ (t : Token). heard (hearing Unheard t m.from) ms) h ∙ settled y ms refl in
        subst (Outcome (m ∷ ms)) (sym e) (λ _. at_once m ms h, λ f. true_is_not_false (sym f) refl)

    charmed : (c : Chord) → m.token ≡ sound (chord c) → Outcome (m ∷ ms) (heard (hearing Unheard m.token m.from) ms)
    charmed c h =
        let y : Stray = Sounded in
        let e : heard (hearing Unheard m.token m.from) ms ≡ y = ap (λ (t : Token). heard (hearing Unheard t m.from) ms) h ∙ settled y ms refl in
        subst (Outcome (m ∷ ms)) (sym e) (λ f. true_is_not_false f refl, λ _ from x. not_behind m ms c h from x)
