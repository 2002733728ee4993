-- The setting begins where the model's does and is judged by its bytes alone; so both tests, and the lesser complaint, are the model's.
use Rattle.text.specs.Spans.{line_text}
use Rattle.songcode.specs.Answer.Sections.{setting_of}
use Rattle.stage2.proofs.NameReturns.{key_noted, key_unknown}
use Rattle.stage2.proofs.names.key_note.Goals as goal

pub returns-in_default : goal.returns-in_default
returns-in_default c = let q = c.args in
    key_unknown q.section (setting_of (line_text q.s.now q.l)) q.l.number c.complain_if.result c.in_default.is c.complain_if.ensures

pub returns : goal.returns
returns c = let q = c.args in
    key_noted q.l.number q.s.now q.l.start q.l.stop c.setting_start-q.result q.section c.in-Some.key
    c.is_allowed-allowed.result c.is_setting-good.result c.complain_if-four.result c.complain_if-five.result
    c.min.result c.in-Some.is
    c.setting_start-q.ensures.0 c.is_allowed-allowed.ensures c.complain_if-four.ensures c.is_setting-good.ensures
    c.complain_if-five.ensures c.min.ensures
