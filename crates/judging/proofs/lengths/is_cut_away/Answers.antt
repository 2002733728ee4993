-- An empty pattern by its modifiers, one without cuts by its measures; any other by its plan, which tells the beats between its cuts.
use Rattle.judging.specs.Lengths.{cut_away}
use Rattle.judging.proofs.CutLaws.{cut_fits}
use Rattle.songcode.specs.Lists.{provided◌then◌else◌}
use mathlib.Core.Path.{sym, ◌∙◌}
use borrow.Author.Tests.{not-true, not-false}
use Rattle.judging.proofs.lengths.is_cut_away.Goals as goal

pub returns-then-outline : goal.returns-then-outline
unfolding cut_away provided◌then◌else◌
returns-then-outline c = rw c.if-outline.true c.is_modified.ensures

pub returns-then-not-has_cut : goal.returns-then-not-has_cut
unfolding cut_away provided◌then◌else◌
returns-then-not-has_cut c = rw (c.if-outline.false, sym c.has_cut.ensures ∙ not-true _ c.if-not-has_cut.true-raw)

pub planned-requires : goal.planned-requires
planned-requires c =
    let h = c.requires in
    rw c.arrangement.ensures (record { meter = h.0; cuts = cut_fits _ h.1; measures = h.2; even = h.3 })

pub returns : goal.returns
unfolding cut_away provided◌then◌else◌
returns c =
    rw (
      c.if-outline.false,
      sym c.has_cut.ensures ∙ not-false _ c.if-not-has_cut.false-raw,
      c.planned.ensures.left,
      c.arrangement.ensures,
    )
