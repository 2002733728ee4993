-- The answer of the second call, by cases: a record's place, or none; with the probes made. And what is said where there is none.
use Rattle.std.specs.Prelude.{ℕ, Option, Some, None}
use Rattle.std.proofs.Math.Option as math
use Rattle.songcode.specs.Answer.Finding.{Jump}
use Rattle.refusals.specs.declared.names.Why.{Why}
use Rattle.refusals.specs.declared.names.Why.TheVariants.{BeatNotFound}
use Rattle.seek.specs.declared.Found.{Found}

unfoldable pub found_as : math.Option ℕ → ℕ → Found
found_as math.none probes = record { place = None; probes = probes }
found_as (math.some place) probes = record { place = Some place; probes = probes }

unfoldable pub found_of : Jump → Found
unfolding found_as
found_of j = found_as j.place j.probes

abbrev pub refused : Option ℕ → Option Why
refused (Some place) = None
refused None = Some BeatNotFound
