-- What stages 4 and 5 find from section to section.
use Rattle.std.specs.Prelude.{ℕ, min, List}
use Rattle.std.proofs.Math.Option as math
use Rattle.std.specs.Result.{result_err}
use Rattle.songcode.specs.Complaints.{Complaint, stage_or}
use Rattle.refusals.specs.Refusals.{told}
use Rattle.refusals.specs.Ranks.{refusal_at}
use Rattle.laying.specs.declared.texts.Opened.{Opened}
use Rattle.judging.specs.declared.measures.Metered.{Metered}
use Rattle.judging.specs.Meters.{meter_fault}
use Rattle.judging.specs.Lengths.{with_lengths}

-- With one more section, played in n.
abbrev pub with_measures : List ℕ → ℕ → Opened → Metered → Metered
with_measures ws n x y =
    record {
      meters = min y.meters (meter_fault x.section.header x.section.modifiers x.texts n);
      lengths = with_lengths ws n x.section.header x.section.modifiers x.texts y.lengths;
    }

unfoldable pub metered_refusal : Metered → math.Option Complaint
unfolding stage_or refusal_at told
metered_refusal x = stage_or (refusal_at x.meters) (told (result_err x.lengths))
