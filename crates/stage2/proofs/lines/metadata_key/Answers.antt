-- Name, number, both complaints and the marks are each what their functions tell, and the lesser complaint is taken.
use Rattle.stage2.proofs.MetadataReturns.{key_alone_lem}
use Rattle.text.specs.Spans.{line_text}
use Rattle.stage2.proofs.lines.metadata_key.Goals as goal

pub returns : goal.returns
returns c = let q = c.args in
    key_alone_lem (line_text q.s.now q.l) q.marks c.key_at-k.result c.key_number-n.result c.again_note-twice.result
    c.key_note-own.result c.min-note.result c.put_mark.result
    c.key_at-k.ensures c.key_number-n.ensures c.again_note-twice.ensures c.key_note-own.ensures
    c.min-note.ensures c.put_mark.ensures
