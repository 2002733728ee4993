-- The complaints of its place, of being said again and of the key itself, their least, the mark and the next part: each is the model's.
use Rattle.stage2.proofs.MetadataReturns.{key_judged_lem}
use Rattle.text.specs.Spans.{line_text}
use Rattle.stage2.proofs.lines.key_line.Goals as goal

pub returns : goal.returns
returns c = let q = c.args in
    key_judged_lem q.p q.c (line_text q.s.now q.l) c.key_at-k.result
    c.key_number-n.result c.complain_if-out.result c.again_note-twice.result
    c.key_note-own.result
    c.min.result c.min-note.result
    c.past_keys.result c.put_mark-keys.result c.after_key.result
    c.key_at-k.ensures c.key_number-n.ensures
    c.past_keys.ensures c.complain_if-out.ensures c.again_note-twice.ensures
    c.key_note-own.ensures
    c.min.ensures c.min-note.ensures
    c.put_mark-keys.ensures c.after_key.ensures
