-- What is found on a line: bytes passed over one by one, and what is found carried into the slip that is told.
use Prim.Native.Nat.{ℕ}
use mathlib.Core.Path.{◌≡◌}
use mathlib.Core.List.{List}
use native.Mathlib.Omega.{arith}
use Rattle.songcode.specs.Lists.{provided◌then◌else◌}
use Rattle.songcode.specs.Answer.Lines.{lf, cr, inside, ending}
use Rattle.text.specs.declared.lines.Line.{Line}
use Rattle.text.specs.Spans.{end}
use Rattle.slips.specs.declared.slip.Slip.{Slip}
use Rattle.slips.specs.Finds.{NameOn}

-- A byte that ends no line is neither of the two that do.
pub no_lf : (b : ℕ) → end b ≡ inside → b ≡ 10 → ⊥
unfolding ending provided◌then◌else◌
no_lf b h e =
    let f : lf ≡ inside = rw e at h in
    let z : ◌≡◌ {A = ℕ} 0 1 = cc in
    absurd (omega arith)

pub no_cr : (b : ℕ) → end b ≡ inside → b ≡ 13 → ⊥
unfolding ending provided◌then◌else◌
no_cr b h e =
    let f : cr ≡ inside = rw e at h in
    let z : ◌≡◌ {A = ℕ} 0 1 = cc in
    absurd (omega arith)

module _ {s : List ℕ} {l : Line} (x : Slip) {clause from to : ℕ} (e : (x.clause ≡ clause) × (x.from ≡ from) × (x.to ≡ to)) where
  pub name_told : NameOn s l from to → NameOn s l x.from x.to
  name_told h = rw (e.1, e.2) h
