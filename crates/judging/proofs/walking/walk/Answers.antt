-- What is known of the sections passed, and what is left of stage 3, is all of it; behind the last the outcome is the verdict, and all stand in the row.
use Rattle.judging.proofs.OpenedLaws.{opened_measurable}
use Rattle.judging.proofs.LengthsAreLaws.{lengths_small}
use Rattle.judging.proofs.ReferenceLaws.{fault_at, references_start, references_over, references_stop, references_next}
use Rattle.judging.proofs.StageLaws.{stage_refused, stage_none, none_found, some_found}
use Rattle.judging.proofs.RowIsLaws.{row_is_start, row_before, row_is_next, row_is_blocks, row_is_sized}
use Rattle.laying.proofs.ReadyLaws.{ready_told}
use Rattle.judging.proofs.ClearLaws.{song_clear}
use Rattle.judging.proofs.WalkLaws.{walked_start, walk_sings, walk_on, walk_refused, later_verdict, outcome_holds}
use Rattle.judging.specs.Stages.{playing_faults, later_faults}
use Rattle.judging.specs.Sums.{Holds}
use Rattle.std.proofs.lemmas.Result.{MatchResult-at_ok, MatchResult-at_err}
use Rattle.refusals.specs.Refusals.{told}
use Rattle.refusals.proofs.PassedLaws.{passed_up}
use Rattle.songcode.specs.Answer.Answer.{song_of}
use Rattle.songcode.specs.Answer.References.{reference_faults}
use Rattle.songcode.specs.Answer.Tables.{tables}
use native.Mathlib.Omega.{arith}
use mathlib.Core.Path.{refl, sym, ap, ◌∙◌, subst}
use Rattle.judging.proofs.walking.walk.Goals as goal
use Rattle.judging.proofs.walking.walk.Goals.{then-is_none, else-is_none}

pub loop-place-init : goal.loop-place-init
loop-place-init c = (
  c.requires.place.0.onward,
  row_is_start c.requires.place.0 c.requires.place.1 c.requires.place.2 c.requires.place.3,
  refl,
  references_start c.requires.place.0 c.requires.song.1,
  rw (c.nothing_sung-sung.ensures, c.nothing_metered-metered.ensures) (walked_start c.requires.place.0),
)

pub lay_section-x-requires : goal.lay_section-x-requires
lay_section-x-requires c =
    let i = c.loop-place.invariant in record {
      place = (i.0, c.loop-place-test.true, i.1.room, i.1.kept);
      row = (row_before i.1, c.requires.song.0);
    }

pub returns-in-Some-clause-judged : goal.returns-in-Some-clause-judged
unfolding later_faults
returns-in-Some-clause-judged c =
    let i = c.loop-place.invariant in
    let laid = row_is_next c.lay_section-x.result i.1 c.lay_section-x.ensures.lays c.lay_section-x.ensures.length in
    let song = song_of c.args.s.now in
    let fault = fault_at c.lay_section-x.result c.lay_section-x.ensures.lays (ready_told laid.ready) c.name_fault.ensures in
    stage_refused _ (reference_faults song) (playing_faults song)
    (references_stop c.lay_section-x.ensures.lays.opens c.in-Some.refusal (ap told (sym c.in-Some.is) ∙ fault) i.3)

pub with_measures-metered-requires : goal.with_measures-metered-requires
with_measures-metered-requires c =
    let i = c.loop-place.invariant in (
      rw c.lay_section-x.ensures.lays.said (opened_measurable _ _ _ _ c.lay_section-x.ensures.lays.opens c.requires.song.0.time),
      lengths_small _ _ _ i.4.lengths,
    )

pub sing-sung-requires : goal.sing-sung-requires
sing-sung-requires c =
    let i = c.loop-place.invariant in
    let x = c.lay_section-x in
    let m = c.with_measures-metered.ensures in
    walk_sings x.result x.ensures.lays i.0 c.loop-place-test.true c.requires.song.0.time _ _ i.4 m c.metered_refusal.result
    c.metered_refusal.ensures (none_found c.is_none.ensures c.if-is_none.true)

pub loop-place-smaller : goal.loop-place-smaller
loop-place-smaller c =
    omega (arith, c.lay_section-x.ensures.lays.opens.met.further, c.loop-place-test.true)

pub loop-place-preserved : goal.loop-place-preserved
loop-place-preserved c =
    let i = c.loop-place.invariant in
    let x = c.lay_section-x in
    let laid = row_is_next x.result i.1 x.ensures.lays x.ensures.length in
    let fault = fault_at x.result x.ensures.lays (ready_told laid.ready) c.name_fault.ensures in
    let inside = c.loop-place-test.true in
    let time = c.requires.song.0.time in
    let m = c.with_measures-metered.ensures in (
      x.ensures.lays.opens.met.onward,
      laid,
      x.ensures.length ∙ i.2,
      references_next x.ensures.lays.opens (stage_none _ fault c.in_default.is) i.3,
      elim c.if-is_none.branch [
        | then-is_none v ↦
            walk_on x.result x.ensures.lays i.0 inside time _ _ i.4 m (v.sung-is ∙ v.sing-sung.ensures)
        | else-is_none v ↦
            walk_refused x.result x.ensures.lays i.0 inside time _ _ i.4 m c.metered_refusal.result c.metered_refusal.ensures
            (some_found c.is_none.ensures v.if-is_none.false) v.sung-is
      ],
    )

pub returns-in_err-totals-clause-judged : goal.returns-in_err-totals-clause-judged
returns-in_err-totals-clause-judged c =
    let l = c.loop-place in
    let over = c.loop-place-test.false in
    let none = references_over c.args.s.now l.place over l.invariant.3 in
    passed_up _ _ _ _ c.from_residual.ensures.1
    (MatchResult-at_err _ _ _ c.in_err-totals.was c.outcome_of.ensures
    ∙ later_verdict l.invariant.1.ready.small over l.metered l.sung l.invariant.4 none)

pub returns-clause-judged : goal.returns-clause-judged
returns-clause-judged c =
    let l = c.loop-place in
    let s = c.args.s.now in
    let over = c.loop-place-test.false in
    let none = references_over s l.place over l.invariant.3 in
    let e = MatchResult-at_ok _ _ _ c.in_ok-totals.was c.outcome_of.ensures in record {
      clear = song_clear (song_of s) (sym (later_verdict l.invariant.1.ready.small over l.metered l.sung l.invariant.4 none) ∙ e.0);
      blocks = row_is_blocks l.invariant.1 over;
      sized = row_is_sized l.invariant.1 over;
      holds = subst (λ t. Holds (tables (song_of s)) t) (sym e.1) (outcome_holds l.invariant.1.ready.small over l.metered l.sung l.invariant.4 e.0);
    }
