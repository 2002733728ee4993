-- A cut that is read has small numbers.
use Prim.Native.Nat.{◌≤◌}
use mathlib.Core.Path.{◌≡◌}
use Rattle.cuts.specs.declared.Cut.{Cut}
use Rattle.std.specs.Prelude as std
use Rattle.std.specs.Prelude.{Some}
use Rattle.settings.specs.Cuts.{CutFits}
use Rattle.laying.proofs.rows.cut_word.Goals as goal

small : (r : std.Option Cut) (k : Cut) → r ≡ Some k → CutFits r → (k.measures.0 ≤ 9999) × (k.beats.0 ≤ 9999)
unfolding CutFits
small r k e h = rw e at h

pub packed_cut-requires : goal.packed_cut-requires
packed_cut-requires c = small _ _ c.in-Some.is c.requires
