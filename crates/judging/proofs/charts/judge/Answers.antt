-- The metadata is gathered, the definitions are loaded, the sections judged and laid behind them: what refuses is passed up; else the words of the keys
-- are laid into what is left of the row.
use mathlib.Core.Path.{refl, subst}
use native.Mathlib.Omega.{arith}
use borrow.Author.Rules.{rules}
use Rattle.refusals.proofs.PassedLaws.{passed_up}
use Rattle.sections.specs.declared.runs.Run.{Run}
use Rattle.sections.specs.Runs.{lines_of}
use Rattle.sections.specs.Values.{KeysAre}
use Rattle.laying.specs.Metadata.{lines_before}
use Rattle.judging.specs.Stages.{later_faults, playing_faults}
use Rattle.judging.proofs.ClearLaws.{song_keys}
use Rattle.judging.proofs.StageLaws.{input_small, stage_refused}
use Rattle.judging.proofs.WholeLaws.{keys_added, whole_there, sized_kept}
use Rattle.judging.proofs.charts.judge.Goals as goal

pub gather-settings-requires : goal.gather-settings-requires
unfolding lines_before
gather-settings-requires c =
    let lines = c.lines_before.ensures in
    let number = c.metadata_end-end.ensures.number in
    rw lines (omega arith, omega arith, omega arith)

pub load-requires : goal.load-requires
load-requires c = (c.requires.1, c.metadata_end-end.ensures, input_small c.args.s.now c.requires.0, c.requires.2)

pub returns-in_err-loaded : goal.returns-in_err-loaded
unfolding later_faults
returns-in_err-loaded c =
    passed_up _ _ _ _ c.from_residual.ensures.1 (stage_refused _ _ (playing_faults _) c.in_err-loaded.ensures.0)

pub walk-requires-clause-song : goal.walk-requires-clause-song
walk-requires-clause-song c =
    let s = c.args.s.now in
    let ends = c.metadata_end-end in
    let said = c.keys.ensures _ c.gather-settings.ensures in (
      song_keys s ends.result c.keys.result ends.ensures (subst (λ (run : Run). KeysAre (lines_of s run) c.keys.result) c.lines_before.ensures said),
      c.in_ok-loaded.ensures.0.clear,
    )

pub returns : goal.returns
returns c =
    let s = c.args.s.now in
    let loads = c.in_ok-loaded.ensures in
    let laid = c.in_ok-outcome.ensures.judged in
    let room = c.requires.2.room in
    let long = c.in_ok-outcome.ensures.length in
    let also = loads.1 in
    record {
      begins = loads.0.begins;
      laid = record {
        whole = whole_there laid.sized (omega arith) (keys_added laid.sized laid.blocks c.lay_keys.ensures refl);
        sized = sized_kept (search rules) laid.sized;
        clear = laid.clear;
      };
      holds = laid.holds;
    }
