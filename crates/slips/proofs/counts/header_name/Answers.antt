-- It begins with the line, and what is known of the name's stop says the rest.
use mathlib.Core.Path.{refl}
use Rattle.slips.proofs.FindLaws.{name_told}
use Rattle.slips.proofs.counts.header_name.Goals as goal

pub returns : goal.returns
returns c =
    let n = c.name_stop.ensures in
    let p = c.at_place.ensures in
    (p.0, name_told c.at_place.result p (record { begins = refl; onward = n.0; inside = n.1; plain = n.2; ends = n.3 }))
