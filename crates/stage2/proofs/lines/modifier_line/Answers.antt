-- Early, said before, or wrong in itself: the least of the three complaints, the new mark and the next part are the model's.
use Rattle.stage2.proofs.MetadataReturns.{modifier_judged}
use Rattle.text.specs.Spans.{line_text}
use Rattle.stage2.proofs.lines.modifier_line.Goals as goal

pub returns : goal.returns
returns c = let q = c.args in
    modifier_judged q.p q.c (line_text q.s.now q.l) c.modifier_at-m.result
    c.modifier_number-n.result c.complain_if-out.result c.again_note-twice.result
    c.modifier_note-own.result
    c.min.result c.min-note.result
    c.before_pattern.result c.put_mark-modifiers.result c.after_modifier.result
    c.modifier_at-m.ensures c.modifier_number-n.ensures
    c.before_pattern.ensures c.complain_if-out.ensures c.again_note-twice.ensures
    c.modifier_note-own.ensures
    c.min.ensures c.min-note.ensures
    c.put_mark-modifiers.ensures c.after_modifier.ensures
