-- What the call that copies flat lays down is promised, and nothing else is.
use Prim.Native.Nat.{ℕ}
use mathlib.Core.Path.{◌≡◌, refl, sym, ap, ◌∙◌, subst}
use mathlib.Core.List.{List}
use lib.ListN.{get_or}
use Rattle.std.specs.Prelude.{Result}
use Rattle.refusals.specs.declared.Refusal.{Refusal}
use Rattle.flat.specs.Answers.{Copied, copied_as, Flattened}
use Rattle.flat.proofs.AnswerLaws as flat
use Rattle.turnipcart.specs.Answers.{copied_in, CopiesChart}

pub copied_laid : (text before xs : List ℕ) (r : Result ℕ Refusal) (after : List ℕ) → copied_in xs ≡ copied_as r → Flattened text before (copied_as r) after
    → CopiesChart text before (get_or xs 0 0) xs after
unfolding copied_in
copied_laid text before xs r after e f = record { handed = refl; flattened = subst (λ (c : Copied). Flattened text before c after) (sym e) f }

pub one_copy : (s old : List ℕ) (r q : ℕ) (x y a b : List ℕ) → CopiesChart s old r x a → CopiesChart s old q y b
    → (r ≡ q) × (copied_in x ≡ copied_in y) × (a ≡ b)
one_copy s old r q x y a b f g =
    let same = flat.one_copy s old (copied_in x) (copied_in y) a b f.flattened g.flattened in
    (f.handed ∙ ap (λ (z : Copied). z.refusal) same.0 ∙ sym g.handed, same.0, same.1)
