-- Steps of the check: one that leads nowhere, one that leads on, and those of a check that is spoiled.
use mathlib.Core.Path.{◌≡◌, refl, sym, ap, ◌∙◌}
use mathlib.Core.Bool.{Bool, true, false}
use Rattle.songcode.specs.Lists.{provided◌then◌else◌}
use Rattle.grammar.specs.declared.kinds.Kind.{Kind}
use Rattle.grammar.specs.declared.kinds.Kind.TheVariants.{Sound, Remover, Reference, Semicolon, Colon, LineEnd, Opens, Closes, Wrong}
use Rattle.grammar.specs.declared.checks.Place.{Place}
use Rattle.grammar.specs.declared.checks.Place.TheVariants.{Fresh, Wants, Joins, Sounds, Removed, Alone, Full, Ended, Bad}
use Rattle.grammar.specs.declared.checks.Check.{Check}
use Rattle.grammar.specs.Places.{next_place}
use Rattle.grammar.specs.Checks.{spoiled, is_bad, arrived, check_step}

-- A step that leads nowhere, and one that leads on.
module _ (c : Check) (k : Kind) {r : Check} {p : Place} {b : Bool} (is : b ≡ is_bad p) (next : p ≡ next_place c.place k) where
  pub step_bad : b ≡ true → r ≡ spoiled → r ≡ check_step c k
  unfolding check_step provided◌then◌else◌
  step_bad t h = let e : is_bad (next_place c.place k) ≡ true = ap is_bad (sym next) ∙ (sym is ∙ t) in rw e h

  pub step_on : b ≡ false → r ≡ arrived c p k → r ≡ check_step c k
  unfolding check_step provided◌then◌else◌
  step_on t h =
      let e : is_bad (next_place c.place k) ≡ false = ap is_bad (sym next) ∙ (sym is ∙ t) in
      rw e (h ∙ ap (λ (q : Place). arrived c q k) next)

-- What holds of each kind.
pub of_kind : (P : Kind → Type 0) → P Sound → P Remover → P Reference → P Semicolon → P Colon → P LineEnd → P Opens → P Closes → P Wrong → (k : Kind) → P k
of_kind P s r n c d e o z w Sound = s
of_kind P s r n c d e o z w Remover = r
of_kind P s r n c d e o z w Reference = n
of_kind P s r n c d e o z w Semicolon = c
of_kind P s r n c d e o z w Colon = d
of_kind P s r n c d e o z w LineEnd = e
of_kind P s r n c d e o z w Opens = o
of_kind P s r n c d e o z w Closes = z
of_kind P s r n c d e o z w Wrong = w

-- What holds of each place.
pub of_place : (P : Place → Type 0) → P Fresh → P Wants → P Joins → P Sounds → P Removed → P Alone → P Full → P Ended → P Bad → (p : Place) → P p
of_place P f w j s r a u e b Fresh = f
of_place P f w j s r a u e b Wants = w
of_place P f w j s r a u e b Joins = j
of_place P f w j s r a u e b Sounds = s
of_place P f w j s r a u e b Removed = r
of_place P f w j s r a u e b Alone = a
of_place P f w j s r a u e b Full = u
of_place P f w j s r a u e b Ended = e
of_place P f w j s r a u e b Bad = b

-- A check that is spoiled stays so.
pub stays_spoiled : (k : Kind) → spoiled ≡ check_step spoiled k
unfolding check_step
stays_spoiled = of_kind (λ k. spoiled ≡ check_step spoiled k) refl refl refl refl refl refl refl refl refl
