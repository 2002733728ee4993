-- A cleared row has no marks, so the definitions can be loaded; stage 3 found nothing, so they are, and the sections can be summed.
use mathlib.Core.Path.{subst}
use native.Mathlib.Omega.{arith}
use lib.ListN.{length}
use Rattle.sections.specs.declared.runs.Run.{Run}
use Rattle.sections.specs.Runs.{lines_of}
use Rattle.sections.specs.Values.{KeysAre}
use Rattle.laying.specs.Metadata.{lines_before}
use Rattle.judging.proofs.ClearLaws.{song_keys}
use Rattle.explain.proofs.SumLaws.{not_refused}
use Rattle.explain.proofs.ZeroLaws.{zeros_kept}
use Rattle.explain.proofs.sums.sums_at.Goals as goal

pub keys_of-song-requires : goal.keys_of-song-requires
unfolding lines_before
keys_of-song-requires c = rw c.lines_before.ensures (omega arith, omega arith, omega arith)

pub load-requires : goal.load-requires
load-requires c =
    let kept = zeros_kept (length c.args.words.now) (c.fill.ensures.after (λ y e. e)) c.requires.1 in
    (c.requires.0.text, c.metadata_end-end.ensures, c.requires.0.small, kept)

pub sums_from-requires : goal.sums_from-requires
sums_from-requires c =
    let s = c.args.s.now in
    let found = c.keys_of-song in
    let ends = c.metadata_end-end in
    let keys = song_keys s ends.result found.result ends.ensures
    (subst (λ (run : Run). KeysAre (lines_of s run) found.result) c.lines_before.ensures found.ensures) in
    let loads = c.in-Ok.ensures.0 in record {
      row = (loads.begins, loads.ready, loads.filled, loads.kept);
      song = (keys, c.requires.0.meters, c.requires.0.lengths);
    }

pub returns-in-Err : goal.returns-in-Err
returns-in-Err c = absurd (not_refused c.args.s.now _ c.in-Err.ensures.0 c.requires.0.references)
