-- A barred byte rules the text out; without one the verdict on the check of its tokens is the verdict on the text.
use mathlib.Core.Path.{sym, ap, ◌∙◌}
use Rattle.songcode.specs.Bytes.{placed}
use Rattle.text.specs.Spans.{part}
use Rattle.grammar.specs.declared.checks.Check.{Check}
use Rattle.grammar.specs.Checks.{check_text}
use Rattle.grammar.specs.Verdicts.{unnamed_fine}
use Rattle.grammar.proofs.LineLaws.{side_barred, side_fine}
use Rattle.grammar.proofs.sides.side_fine.Goals as goal

pub returns-else-not-has_barred : goal.returns-else-not-has_barred
returns-else-not-has_barred c =
    let q = c.args in
    rw c.if-not-has_barred.false
    (sym (side_barred (placed q.from (part q.from q.to q.s.now)) (sym c.has_barred.ensures ∙ c.if-not-has_barred.false)))

pub returns-then-not-has_barred : goal.returns-then-not-has_barred
returns-then-not-has_barred c =
    let q = c.args in
    let bs = placed q.from (part q.from q.to q.s.now) in
    let line = c.check_line.ensures ∙ ap (λ (d : Check). check_text d bs) c.start.ensures in
    c.unnamed_fine.ensures ∙ (ap unnamed_fine line ∙ sym (side_fine bs (sym c.has_barred.ensures ∙ c.if-not-has_barred.true)))
