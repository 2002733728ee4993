-- Where bytes stand on the line its setting is a text of one line, read from the start to its end; of an empty line nothing is claimed.
use mathlib.Core.Path.{ap}
use mathlib.Core.List.{List, [], ◌∷◌}
use Rattle.songcode.specs.Bytes.{Byte}
use Rattle.songcode.specs.Answer.Lines.{Line}
use Rattle.settings.proofs.OfLineLaws.{setting_of_line}
use Rattle.slips.specs.declared.patterns.Whose.TheVariants.{Side}
use Rattle.slips.specs.RulesRead.{side_line}
use Rattle.slips.proofs.TextReadLaws.{line_read, text_told}
use Rattle.slips.proofs.patterns.side_slip.Goals as goal

pub returns : goal.returns
returns c =
    let a = c.args in
    let s = a.s.now in
    let l = a.p.line in
    let q = c.setting_start-q in
    let r = c.reading_from in
    let x = c.read_line-read in
    let e = c.stop_in in
    let text = setting_of_line l.number s l.start l.stop q.result q.ensures.0 in
    let lines = side_line s l ∷ [] in
    let whole : List Byte → List Line = λ bs. record { number = l.number; text = bs } ∷ [] in
    λ h.
    text_told s Side lines x.result e.result
    (line_read s Side l.number q.result l.stop q.ensures.2 c.requires.0.1 lines (ap whole text) r.result r.ensures x.result x.ensures)
    e.ensures c.slip_in.result c.slip_in.ensures
