-- What a `?` passes up: of the refusal whatever was said of the refusal.
use Rattle.std.proofs.Common.{Result, Ok, Err, IsErrAnd, MatchResult}
use mathlib.Core.Path.{◌≡◌, sym, subst}

pub passed_up : {T E : Type 0} (r : Result T E) (e : E) (P : T → Type 0) (Q : E → Type 0) → IsErrAnd r (λ y. y ≡ e) → Q e → MatchResult r P Q
passed_up (Ok x) e P Q is q = absurd is
passed_up (Err y) e P Q is q = subst Q (sym is) q
