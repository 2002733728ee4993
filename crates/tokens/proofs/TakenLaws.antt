-- The bytes that no extension holds, one after another.
use Prim.Native.Nat.{ℕ, suc, ◌≤◌}
use mathlib.Core.Path.{◌≡◌, refl, ap, ◌∙◌}
use mathlib.Core.List.{List, [], ◌∷◌}
use mathlib.Core.Bool.{true, false, ◌||◌}
use native.Mathlib.Omega.{arith}
use borrow.Author.Tests.{ne_eqb, eqb-true, eqb-false}
use lib.Dec.{eqb}
use Rattle.std.specs.List.{list_any}
use Rattle.songcode.specs.Lists.{any}
use Rattle.songcode.specs.Bytes.{placed, ascii, is_byte}
use Rattle.songcode.specs.Answer.Chords.{is_slip}
use Rattle.songcode.proofs.ListLaws.{by_cases}
use Rattle.tokens.specs.Lexing.{is_slip_byte}

-- A text holds one, in the library's word for that.
pub slips_any : (w : List ℕ) → list_any is_slip_byte w ≡ any is_slip_byte w
unfolding any
slips_any [] = refl
slips_any (b ∷ w) = ap (λ t. is_slip_byte b || t) (slips_any w)

-- One of the four bytes, and none of them.
pub slip_is : (b sign : ℕ) → is_slip_byte sign ≡ true → b ≡ sign → is_slip_byte b ≡ true
slip_is b sign t e = ap is_slip_byte e ∙ t

pub slip_low : (b : ℕ) → 36 ≤ b → b ≤ 37 → is_slip_byte b ≡ true
unfolding is_slip_byte
slip_low b p q =
    by_cases
    (eqb b 36)
    (λ t. slip_is b 36 refl (eqb-true b 36 t))
    (λ t. let n = eqb-false b 36 t in slip_is b 37 refl (omega arith))

pub slip_none : (b : ℕ) → (b ≡ 37 → ⊥) → (b ≡ 95 → ⊥) → (b ≡ 61 → ⊥) → (b ≡ 36 → ⊥) → false ≡ is_slip_byte b
unfolding is_slip_byte is_slip any is_byte ascii
slip_none b p q r t = rw (ne_eqb b 37 p, ne_eqb b 95 q, ne_eqb b 61 r, ne_eqb b 36 t)

-- A byte is one wherever it stands.
pub slips_placed : (a : ℕ) (w : List ℕ) → any is_slip (placed a w) ≡ any is_slip_byte w
unfolding any placed is_slip_byte is_slip is_byte
slips_placed a [] = refl
slips_placed a (b ∷ w) = rw (slips_placed (suc a) w)
