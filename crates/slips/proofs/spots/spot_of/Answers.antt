-- The line of the number, and the block that holds it.
use mathlib.Core.Path.{sym}
use mathlib.Core.List.Memᴰ
use Rattle.slips.proofs.spots.spot_of.Goals as goal

pub returns : goal.returns
returns c =
    let l = c.line_numbered-line.ensures in
    let b = c.block_of-block.ensures in record {
      start_le_stop = (l.onward, l.inside, l.counted, l.number);
      le_number = (b.number, b.counted, b.inside);
      line_value = λ x i. l.is x i.listed i.number;
      at_in_bounds = λ x m i. let h = b.holds x i.listed (m, Memᴰ.tail i.held, i.number) in (h.0, sym h.1);
    }
