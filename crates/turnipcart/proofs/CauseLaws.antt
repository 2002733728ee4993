-- What the call that explains lays down is promised.
use Prim.Native.Nat.{ℕ}
use mathlib.Core.Path.{refl}
use mathlib.Core.List.{List, [], ◌∷◌}
use Rattle.explain.specs.declared.Explained.{Explained}
use Rattle.explain.specs.Explained.{Explains}
use Rattle.turnipcart.specs.Answers.{explained_in, ExplainsChart}

abbrev pub laid : Explained → List ℕ
laid x =
    x.refusal
    ∷ x.line
    ∷ x.cause
    ∷ x.place.line
    ∷ x.place.offset
    ∷ x.place.length
    ∷ x.other
    ∷ x.first
    ∷ x.second
    ∷ x.third
    ∷ []

pub explained_laid : (text : List ℕ) (x : Explained) → Explains text x → ExplainsChart text x.refusal (laid x)
unfolding explained_in
explained_laid text x e = record { told = refl; explained = e }
