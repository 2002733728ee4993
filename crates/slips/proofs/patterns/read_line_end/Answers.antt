-- Where it may not stand, the last token is named, as all clauses of a line end may; else last token and last `[` stay.
use mathlib.Core.Path.{refl, sym, ◌∙◌}
use mathlib.Core.Logic.{inr}
use Rattle.songcode.specs.Answer.Tokens.{line_end}
use Rattle.grammar.specs.Kinds.{kind_of}
use Rattle.slips.specs.Rules.{is_colon}
use Rattle.slips.proofs.ReadingLaws.{told_earlier, stops_before, goes_on, not_barred, no_opens}
use Rattle.slips.proofs.patterns.read_line_end.Goals as goal

pub returns-then-is_stuck : goal.returns-then-is_stuck
unfolding kind_of
returns-then-is_stuck c =
    let q = c.args in
    let d = c.line_between-check in
    λ ts at g.
    stops_before q.whose ts at q.r g line_end d.result d.ensures c.blamed.result at
    (sym c.is_stuck.ensures ∙ c.if-is_stuck.true)
    (told_earlier at _ c.blamed.result (c.blamed.ensures.0, c.blamed.ensures.1) c.end_of_line_clause-barred.ensures g.behind (inr (inr refl)))

pub returns : goal.returns
unfolding kind_of is_colon
returns c =
    let q = c.args in
    let d = c.line_between-check in
    λ ts at g. (
      goes_on q.whose ts at q.r g line_end d.result d.ensures _ at (sym c.is_stuck.ensures ∙ c.if-is_stuck.false)
          (not_barred q.whose line_end refl) refl g.behind g.opened,
      refl,
      inr (λ e. no_opens (sym e), refl),
    )
