-- A refused input gives the verdict; one that is not refused has no complaint, so it is small enough for stage 2, which gives it then.
use Rattle.judging.proofs.StageLaws.{stage_refused, stage_passed, stage_none, told_none, input_small}
use Rattle.stage2.proofs.SmallLines.{stage_clear}
use Rattle.songcode.specs.Answer.Answer.{input_faults, blocks_of}
use Rattle.songcode.specs.Answer.SongText.{text_faults}
use Rattle.refusals.specs.Refusals.{told}
use mathlib.Core.List.{[], ◌∷◌}
use mathlib.Core.Path.{sym, ap, ◌∙◌}
use Rattle.judging.proofs.stages.first_stages.Goals as goal

pub returns-in-Some : goal.returns-in-Some
returns-in-Some c = stage_refused _ _ _ (ap told (sym c.in-Some.is) ∙ c.judge_input.ensures)

pub stage_two-requires : goal.stage_two-requires
stage_two-requires c =
    let s = c.args.s.now in
    let small = input_small s (stage_none (input_faults s) c.judge_input.ensures c.in_default.is) in
    (small, c.requires.0 small, c.requires.1)

pub returns-in-Some-stage_two : goal.returns-in-Some-stage_two
returns-in-Some-stage_two c =
    let s = c.args.s.now in
    stage_refused _ (text_faults (blocks_of s)) [] (ap told (sym c.in-Some-stage_two.is) ∙ c.stage_two.ensures.value)
    ∙ sym (stage_passed (input_faults s) (text_faults (blocks_of s) ∷ []) (stage_none (input_faults s) c.judge_input.ensures c.in_default.is))

pub returns-in-None : goal.returns-in-None
returns-in-None c =
    let s = c.args.s.now in
    let input = stage_none (input_faults s) c.judge_input.ensures c.in_default.is in (
      input,
      stage_clear s (input_small s input) (sym c.stage_two.ensures.value ∙ told_none c.in-None.is),
      c.stage_two.ensures.kept.0,
    )
