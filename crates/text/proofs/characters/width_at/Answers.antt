-- The width at a place by the lead of the byte there.
use mathlib.Core.Path.{ap, ◌∙◌}
use Rattle.text.specs.Leads.{lead_of}
use Rattle.text.proofs.LeadLaws.{width_past, width_none, width_lead}
use Rattle.text.proofs.characters.width_at.Goals as goal

pub returns-in_err-get : goal.returns-in_err-get
returns-in_err-get c = c.from_residual.ensures ∙ width_past c.args.s.now c.args.i c.in_err-get.ensures.lookup.3

pub returns-in_err-lead : goal.returns-in_err-lead
returns-in_err-lead c = c.from_residual-in_err-lead.ensures ∙ width_none c.args.s.now c.args.i
    (c.in_err-lead.ensures ∙ ap lead_of (c.in_ok-get.ensures.lookup.3.1 0))

pub returns : goal.returns
returns c = width_lead c.args.s.now c.args.i (c.in_ok-lead.ensures ∙ ap lead_of (c.in_ok-get.ensures.lookup.3.1 0)) c.width_from.ensures
