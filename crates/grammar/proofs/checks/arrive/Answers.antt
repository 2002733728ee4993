-- Three kinds have an arm of their own; each of the other six does no more than move the check in the model too.
use mathlib.Core.Path.{◌≡◌, refl, ◌∙◌}
use Rattle.grammar.specs.declared.kinds.Kind.{Kind}
use Rattle.grammar.specs.declared.kinds.Kind.TheVariants.{Opens, Closes, Reference}
use Rattle.grammar.specs.declared.checks.Place.{Place}
use Rattle.grammar.specs.declared.checks.Check.{Check}
use Rattle.grammar.specs.Checks.{moved, arrived}
use Rattle.grammar.proofs.ArmLaws.{of_kind}
use Rattle.grammar.proofs.checks.arrive.Goals as goal

only-moved : (c : Check) (p : Place) (k : Kind) → (k ≡ Opens → ⊥) → (k ≡ Closes → ⊥) → (k ≡ Reference → ⊥) → moved c p ≡ arrived c p k
unfolding arrived
only-moved c p =
    of_kind (λ k. (k ≡ Opens → ⊥) → (k ≡ Closes → ⊥) → (k ≡ Reference → ⊥) → moved c p ≡ arrived c p k) (λ o s r. refl) (λ o s r. refl)
    (λ o s r. absurd (r refl)) (λ o s r. refl) (λ o s r. refl) (λ o s r. refl) (λ o s r. absurd (o refl)) (λ o s r. absurd (s refl)) (λ o s r. refl)

pub returns-in-Opens : goal.returns-in-Opens
unfolding arrived
returns-in-Opens c = rw c.in-Opens.is c.open_loop.ensures

pub returns-in-Closes : goal.returns-in-Closes
unfolding arrived
returns-in-Closes c = rw c.in-Closes.is c.close_loop.ensures

pub returns-in-Reference : goal.returns-in-Reference
unfolding arrived
returns-in-Reference c = rw c.in-Reference.is c.refer_to.ensures

pub returns-in_default : goal.returns-in_default
unfolding arrived
returns-in_default c = let q = c.args in c.move_to.ensures
    ∙ only-moved q.c q.place q.kind c.in_default.not-Opens c.in_default.not-Closes c.in_default.not-Reference
