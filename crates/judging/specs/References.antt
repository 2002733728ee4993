-- What stage 3 finds of a section, by the number that its pattern names.
use Rattle.std.specs.Prelude.{ℕ, List, eqb, not, ◌&&◌, Option, Some, None}
use Rattle.songcode.specs.Lists.{provided◌then◌else◌}
use Rattle.refusals.specs.declared.Refusal.{Refusal}
use Rattle.refusals.specs.declared.names.Why.TheVariants.{ReferenceUndefined}
use Rattle.outlines.specs.Words.{is_missing}

unfoldable pub name_fault : List ℕ → ℕ → ℕ → Option Refusal
unfolding provided◌then◌else◌ is_missing
name_fault ws n header = provided not (eqb n 0) && is_missing ws n then Some (record { why = ReferenceUndefined; line = header }) else None
