-- The count is the copy's length up to 65,537, so the two tests refuse only copies that are too long; any other fits and is put whole.
use mathlib.Core.Path.{refl}
use mathlib.Core.Logic.{inl, inr}
use Rattle.judging.proofs.VerdictLaws.{song_accepted}
use Rattle.flat.specs.Answers.{copied_as}
use Rattle.flat.proofs.AnswerLaws.{flattened_long, flattened}
use Rattle.flat.proofs.copying.copy_chart.Goals as goal

pub returns-then-length-gt65536 : goal.returns-then-length-gt65536
unfolding copied_as
returns-then-length-gt65536 c =
    let s = c.args.text.now in
    let is = song_accepted s c.requires.0 c.requires.1 c.requires.3.clear in
    flattened_long s c.args.copy.now is _ _ c.put_copy-length.result c.put_copy-length.ensures _ _ (inl c.if-length-gt65536.true) refl refl

pub returns-then-copy-length : goal.returns-then-copy-length
unfolding copied_as
returns-then-copy-length c =
    let s = c.args.text.now in
    let is = song_accepted s c.requires.0 c.requires.1 c.requires.3.clear in
    flattened_long s c.args.copy.now is _ _ c.put_copy-length.result c.put_copy-length.ensures _ _ (inr c.if-copy-length.true) refl refl

pub returns : goal.returns
unfolding copied_as
returns c =
    let s = c.args.text.now in
    let is = song_accepted s c.requires.0 c.requires.1 c.requires.3.clear in
    let written = c.put_copy in
    flattened s c.args.copy.now is _ _ c.put_copy-length.result c.put_copy-length.ensures _ written.result
    c.if-length-gt65536.false c.if-copy-length.false written.ensures
