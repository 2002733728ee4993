-- A refusal as songcode has it: the complaint that is given, or none.
use Rattle.std.specs.Prelude.{Option, Some, None}
use Rattle.std.proofs.Math.Option as math
use Rattle.songcode.specs.Complaints.{Complaint, complaint}
use Rattle.refusals.specs.declared.Refusal.{Refusal}
use Rattle.refusals.specs.Names.{number_of}

unfoldable pub told : Option Refusal → math.Option Complaint
told None = math.none
told (Some r) = math.some (complaint (number_of r.why) r.line)
