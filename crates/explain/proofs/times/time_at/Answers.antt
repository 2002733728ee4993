-- With no block found no section holds the line; else the keys of its section and of the song give N, as the text has no fault.
use mathlib.Core.Path.{subst}
use native.Mathlib.Omega.{arith}
use Rattle.sections.specs.declared.runs.Run.{Run}
use Rattle.sections.specs.Runs.{lines_of}
use Rattle.sections.specs.Values.{KeysAre}
use Rattle.laying.specs.Metadata.{lines_before}
use Rattle.judging.proofs.ClearLaws.{song_keys}
use Rattle.explain.proofs.TimeLaws.{time_past, time_found}
use Rattle.explain.proofs.times.time_at.Goals as goal

pub keys_of-song-requires : goal.keys_of-song-requires
unfolding lines_before
keys_of-song-requires c = rw c.lines_before.ensures (omega arith, omega arith, omega arith)

pub returns-then-s-block : goal.returns-then-s-block
returns-then-s-block c =
    time_past c.args.s.now c.requires c.args.line c.block_of-block.ensures c.if-s-block.true 0

pub section_parts-parts-requires : goal.section_parts-parts-requires
section_parts-parts-requires c = let b = c.block_of-block.ensures in (b.number, b.counted, c.if-s-block.false)

pub keys_of-keys-requires : goal.keys_of-keys-requires
keys_of-keys-requires c = let e = c.section_parts-parts.ensures.early_placed in (e.number, e.counted, e.inside)

pub returns : goal.returns
returns c =
    let s = c.args.s.now in
    let ends = c.metadata_end-end in
    let found = c.keys_of-song in
    let keys = song_keys s ends.result found.result ends.ensures
    (subst (λ (run : Run). KeysAre (lines_of s run) found.result) c.lines_before.ensures found.ensures) in
    time_found s c.requires c.args.line c.block_of-block.ensures keys
    c.section_parts-parts.ensures c.keys_of-keys.ensures c.meter_of.ensures
