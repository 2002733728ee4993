-- Both statements on the two cuts, and the waltz: it is run, and what the run shows is said by the description.
use mathlib.Core.Path.{refl}
use Rattle.songcode.specs.Bytes.{ascii}
use Rattle.songcode.specs.Answer.Tables.{all_measures}
use Rattle.songcode.specs.Answer.Answer.{answer}
use Rattle.songcode.specs.Starred.{shown_measure, plays}
use Rattle.songcode.specs.EitherOrder.{waltz, waltz_measures, EitherOrder}
use Rattle.songcode.proofs.CutsCommute.{cuts_commute, either_order}
use Rattle.songcode.proofs.BeatsCounted.{beats_counted}
use Rattle.songcode.proofs.StarredProved.{Run, claim}

waltz_run : Run (plays waltz waltz_measures)
unfolding Run answer shown_measure all_measures ascii
waltz_run = (refl, refl)

pub either_way : EitherOrder
either_way =
    record {
      either_order = either_order;
      cuts_commute = cuts_commute;
      beats_counted = beats_counted;
      waltz_plays = claim (plays waltz waltz_measures) waltz_run;
    }
