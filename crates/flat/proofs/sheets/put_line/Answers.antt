-- To put the part and then the line feed is to put both as one list, which is the line.
use mathlib.Core.List.{[], ◌∷◌}
use Rattle.songcode.specs.Answer.Flat.{end_line}
use Rattle.text.specs.Spans.{part}
use Rattle.flat.proofs.SheetLaws.{puts_two}
use Rattle.flat.proofs.sheets.put_line.Goals as goal

pub returns : goal.returns
unfolding end_line
returns c =
    let a = c.args in
    puts_two (part a.start a.stop a.s.now) (10 ∷ []) _ _ _ c.put_part-written.ensures c.put.ensures
