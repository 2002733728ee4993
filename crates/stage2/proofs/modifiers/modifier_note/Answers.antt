-- Whether the setting is fine and what its fault is numbered are the model's, so the complaint is too.
use Rattle.stage2.proofs.ModifierReturns.{modifier_noted, modifier_unknown}
use Rattle.refusals.specs.Names.{number_of}
use Rattle.text.specs.Spans.{line_text}
use Rattle.stage2.proofs.modifiers.modifier_note.Goals as goal

pub returns-in_default : goal.returns-in_default
returns-in_default c = let q = c.args in
    modifier_unknown (line_text q.s.now q.l) c.complain_if.result c.in_default.is c.complain_if.ensures

pub returns : goal.returns
returns c = let q = c.args in
    modifier_noted (line_text q.s.now q.l) c.in-Some.name c.setting_fine-fine.result (number_of c.setting_why.result)
    c.complain_if-2.result c.in-Some.is c.setting_fine-fine.ensures c.setting_why.ensures c.complain_if-2.ensures
