-- A sharp or a flat is looked up among its seven numbers, any other byte is 0; whatever is found is at most 2.
use Rattle.tokens.proofs.RowLaws.{letter_row, sign_most}
use Rattle.tokens.specs.Bases.{is_letter, sign_of}
use Rattle.songcode.specs.Lists.{provided◌then◌else◌}
use borrow.Author.Tests.{eq-eqb, ne_eqb}
use native.Mathlib.Omega.{arith}
use mathlib.Core.Bool.{true}
use mathlib.Core.Path.{◌≡◌}
use Prim.Native.Nat.{ℕ, ◌-◌, ◌≤◌}
use Rattle.tokens.proofs.bases.sign_of.Goals as goal

told : (letter b : ℕ) → is_letter letter ≡ true → {r : ℕ} → r ≡ sign_of (letter - 65) b → (r ≡ sign_of (letter - 65) b) × (r ≤ 2)
told letter b l e = let m = sign_most (letter - 65) b (letter_row letter l) in (e, omega arith)

pub returns-then-b-eq35 : goal.returns-then-b-eq35
unfolding sign_of provided◌then◌else◌
returns-then-b-eq35 c =
    told c.args.letter c.args.b c.requires (simp (eq-eqb _ _ c.if-b-eq35.true) c.at_letter.ensures)

pub returns-then-b-eq98 : goal.returns-then-b-eq98
unfolding sign_of provided◌then◌else◌
returns-then-b-eq98 c =
    told c.args.letter c.args.b c.requires (simp (ne_eqb _ _ c.if-b-eq35.false, eq-eqb _ _ c.if-b-eq98.true) c.at_letter-then-b-eq98.ensures)

pub returns : goal.returns
unfolding sign_of provided◌then◌else◌
returns c =
    told c.args.letter c.args.b c.requires (simp (ne_eqb _ _ c.if-b-eq35.false, ne_eqb _ _ c.if-b-eq98.false))
