-- An empty pattern changes nothing; otherwise both ways through the code's `or` give that of the definition.
use mathlib.Core.Path.{◌≡◌, ◌∙◌}
use mathlib.Core.Bool.{◌||◌}
use Rattle.songcode.specs.Lists.{provided◌then◌else◌}
use Rattle.judging.specs.Lyrics.{taken_with}
use Rattle.judging.proofs.lyrics.taken_with.Goals as goal
use Rattle.judging.proofs.lyrics.taken_with.Goals.{then-y, else-y}

pub returns-then-empty : goal.returns-then-empty
unfolding taken_with provided◌then◌else◌
returns-then-empty c = rw c.if-empty.true

pub returns : goal.returns
unfolding taken_with provided◌then◌else◌
returns c =
    let a = c.args in
    let one : c.if-y.result ≡ a.y.counted || a.t.counted =
    elim c.if-y.branch [ then-y w ↦ rw w.if-y.true (w.result-is ∙ w.if-y.true) | else-y w ↦ rw w.if-y.false w.result-is ] in
    rw (c.if-empty.false, c.first_line.ensures, one)
