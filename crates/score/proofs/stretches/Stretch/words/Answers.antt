-- The row's part between the two ends, each cut at the row's end: behind the first of what stands before the second.
use Rattle.std.proofs.Common.{take, ◌∙◌}
use Rattle.std.proofs.lemmas.Slice.{between_is}
use Rattle.std.proofs.lemmas.List.{take_min, drop_min, length-take}
use Rattle.score.proofs.stretches.Stretch.words.Goals as goal

pub returns : goal.returns
returns c =
    let a = c.args in
    between_is a.row.now c.min.result c.min-end.result
    ∙ rw (c.min.ensures, c.min-end.ensures, take_min a.self.to a.row.now, ← length-take a.self.to a.row.now) (drop_min a.self.from (take a.self.to a.row.now))
