-- Stages 4 and 5 go before 6 and 7; where none refuses, what the sections hold is what the tables take.
use mathlib.Core.Path.{◌≡◌, refl, sym, ap, ◌∙◌}
use Rattle.refusals.specs.Refusals.{told}
use Rattle.judging.specs.Walking.{walk_refusal}
use Rattle.judging.proofs.StageLaws.{told_or, told_none}
use Rattle.judging.proofs.walking.outcome_of.Goals as goal
use Rattle.judging.proofs.walking.outcome_of.Goals.{After-or}

-- The refusal that is found.
refusal_is : (c : After-or) → told c.or.result ≡ walk_refusal c.args.x c.args.y
unfolding walk_refusal
refusal_is c =
    ap told c.or.ensures ∙ told_or c.metered_refusal.result c.lyric_refusal.result ∙ rw (c.metered_refusal.ensures, c.lyric_refusal.ensures) refl

pub returns-in-Some : goal.returns-in-Some
returns-in-Some c =
    ap told (sym c.in-Some.is) ∙ refusal_is (goal.at.returns-in-Some c).After-or

pub returns-in-None : goal.returns-in-None
returns-in-None c =
    (sym (refusal_is (goal.at.returns-in-None c).After-or) ∙ told_none c.in-None.is, c.totals_of.ensures)
