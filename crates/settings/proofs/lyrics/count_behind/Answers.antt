-- Where no `_` stands in front there is no count; else the number behind it is read.
use mathlib.Core.Path.{sym, ap, ◌∙◌}
use borrow.Author.Tests.{eqb-true, eqb-false}
use Rattle.songcode.specs.Answer.Numbers.{count_in}
use Rattle.songcode.specs.Bytes.{placed}
use Rattle.tokens.specs.Decimals.{number_of}
use Rattle.settings.proofs.ReadLaws.{underscored, count_behind_none, count_behind_some}
use Rattle.settings.proofs.lyrics.count_behind.Goals as goal

pub returns-in_err-strip_prefix : goal.returns-in_err-strip_prefix
unfolding number_of
returns-in_err-strip_prefix c = let w = c.args.w.now in
    c.from_residual.ensures ∙ sym (ap number_of (count_behind_none w (eqb-false _ _ (underscored w c.in_err-strip_prefix.ensures.cases))))

pub returns : goal.returns
unfolding count_in
returns c = let w = c.args.w.now in
    c.number_in.ensures ∙ ap (λ v. number_of (count_in (placed 0 v))) c.in_ok-strip_prefix.ensures.cases.1
    ∙ sym (ap number_of (count_behind_some w (eqb-true _ _ (underscored w c.in_ok-strip_prefix.ensures.cases.0))))
