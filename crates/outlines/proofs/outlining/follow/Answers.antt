-- A chord is read as any position, and a word that is no chord and no reference by the step of its kind.
use Rattle.outlines.proofs.StepLaws.{read_chord, read_other}
use Rattle.outlines.specs.Readings.{nested}
use Rattle.outlines.specs.Words.{look_up}
use Rattle.outlines.proofs.outlining.follow.Goals as goal

pub returns-then-k-lt-CHORDS : goal.returns-then-k-lt-CHORDS
returns-then-k-lt-CHORDS c =
    let a = c.args in
    read_chord (look_up a.words.now) a.s _ a.around.now a.w c.kind-k.result c.kind-k.ensures c.if-k-lt-CHORDS.true c.sound.ensures

pub returns : goal.returns
returns c =
    let a = c.args in
    read_other (look_up a.words.now) (nested a.s a.around.now) _ a.w c.kind-k.result c.kind-k.ensures c.if-k-eq-REFERENCE.false c.advance.ensures
