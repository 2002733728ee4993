-- The setting begins at the place that was found, and is read from there up to the end of the line.

use Rattle.slips.proofs.meters.read_side.Goals as goal

pub returns : goal.returns
returns c =
    let q = c.setting_start-q.ensures in
    record { from = _; begins = q.1; setting = q.0; inside = c.requires.0.1; reads = c.read_plain_line.ensures }
