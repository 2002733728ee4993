-- What the walk over the sections begins with, and what it answers behind the last of them.
use Rattle.std.specs.Prelude.{◌≡◌, true, false, Result, Ok, Some, MatchResult}
use Rattle.std.proofs.Math.Option as math
use Rattle.songcode.specs.Complaints.{Complaint, stage_or}
use Rattle.refusals.specs.declared.Refusal.{Refusal}
use Rattle.refusals.specs.Refusals.{told}
use Rattle.refusals.specs.Ranks.{none}
use Rattle.judging.specs.declared.measures.Metered.{Metered}
use Rattle.judging.specs.declared.sums.Totals.{Totals}
use Rattle.judging.specs.declared.singing.Sung.{Sung}
use Rattle.judging.specs.Measures.{metered_refusal}
use Rattle.judging.specs.Sums.{totals_of}
use Rattle.judging.specs.Singing.{lyric_refusal}

abbrev pub nothing_metered : Metered
nothing_metered = record { meters = none; lengths = Ok 0 }

abbrev pub nothing_sung : Sung
nothing_sung =
    record {
      taken = record { counted = false; bare = 0 };
      off = 0;
      sums = record { sections = 0; measures = 0; beats = 0; lines = 0; all = true };
    }

-- The first of stages 4 to 7 that refuses.
unfoldable pub walk_refusal : Metered → Sung → math.Option Complaint
unfolding stage_or metered_refusal told
walk_refusal x y = stage_or (metered_refusal x) (told (lyric_refusal y))

-- Behind the last section: none of them refuses, and so many words the tables take; or what is refused.
abbrev pub Ends : Metered → Sung → Result Totals Refusal → Type 0
Ends x y r = MatchResult r (λ t. (walk_refusal x y ≡ math.none) × (t ≡ totals_of y.sums)) (λ e. told (Some e) ≡ walk_refusal x y)
