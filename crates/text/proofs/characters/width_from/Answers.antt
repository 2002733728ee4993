-- The width of a lead by what stands behind the first byte.
use mathlib.Core.Path.{sym, ap, ◌∙◌}
use Rattle.std.proofs.lemmas.List.{nil_from_length}
use Rattle.text.specs.Leads.{width_from}
use Rattle.text.proofs.LeadLaws.{width_short, width_ended, width_second, width_tails}
use Rattle.text.proofs.characters.width_from.Goals as goal
use Rattle.text.proofs.characters.width_from.Goals.{then-is_within, else-is_within}

pub returns-then-width-lt2 : goal.returns-then-width-lt2
returns-then-width-lt2 c = width_short c.args.lead _ c.if-width-lt2.true

pub returns-in_err-second : goal.returns-in_err-second
returns-in_err-second c = c.from_residual.ensures ∙ width_ended c.args.lead c.if-width-lt2.false ∙ sym (ap (width_from c.args.lead)
    (nil_from_length _ c.in_err-second.ensures.cases))

pub returns : goal.returns
returns c =
    let l = c.args.lead in
    let h = c.if-width-lt2.false in
    c.then_some.ensures ∙ elim c.if-is_within.branch [
      | then-is_within w ↦ width_tails l h _ _ (sym c.is_within.ensures ∙ w.if-is_within.true) (w.then_some-is ∙ w.has_tails.ensures)
      | else-is_within w ↦ width_second l h _ _ (sym c.is_within.ensures ∙ w.if-is_within.false) (w.then_some-is ∙ w.if-is_within.false)
    ] ∙ sym (ap (width_from l) c.in_ok-second.ensures.cases.0)
