-- An empty text has no number; else the bytes behind the first are read, and a number is the same wherever it stands.
use mathlib.Core.Path.{◌≡◌, sym, ap, ◌∙◌}
use native.Mathlib.Omega.{arith}
use lib.ListN.{length}
use Rattle.songcode.specs.Answer.Numbers.{count_in}
use Rattle.songcode.specs.Bytes.{placed}
use Rattle.tokens.specs.Decimals.{number_of}
use Rattle.text.proofs.ListLaws.{rest_part}
use Rattle.settings.proofs.NumberLaws.{count_behind_first, count_nothing}
use Rattle.settings.proofs.kinds.head_in.Goals as goal

pub returns-in_err-get : goal.returns-in_err-get
unfolding number_of
returns-in_err-get c = let w = c.args.w.now in
    let empty : length w ≡ 0 = omega (arith, c.in_err-get.ensures.lookup) in
    c.from_residual.ensures ∙ sym (ap number_of (count_nothing 0 w empty))

pub returns : goal.returns
unfolding count_in
returns c = let w = c.args.w.now in
    c.number_in.ensures ∙ ap (λ v. number_of (count_in (placed 0 v))) (c.in_ok-get.ensures.lookup.0.2 ∙ rest_part w 1)
    ∙ sym (ap number_of (count_behind_first 0 w))
