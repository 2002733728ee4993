-- The measure, if there is one, is among those between start and end; each probe leaves fewer of them.
use native.Mathlib.Omega.{arith}
use Rattle.songcode.specs.Description.Joined.{end_beat}
use Rattle.songcode.specs.Jumps.{Holds}
use Rattle.packing.proofs.RoundTrips.{measure_fields}
use Rattle.seek.proofs.Laws.{left_before, left_past, found_there, found_nowhere, found_over}
use borrow.Author.Rules.{rules}
use Rattle.seek.proofs.find_measure.Goals as goal

pub returns-then-measures-gt-MOST_RECORDS : goal.returns-then-measures-gt-MOST_RECORDS
returns-then-measures-gt-MOST_RECORDS c = found_over c.args.beat c.args.measures.now c.if-measures-gt-MOST_RECORDS.true

pub loop-start-preserved-then-wanted-record : goal.loop-start-preserved-then-wanted-record
loop-start-preserved-then-wanted-record c =
    let a = c.args in
    let l = c.loop-start in
    let t = c.loop-start-test.true in
    let f = measure_fields c.measure_of-record.ensures in (
      search rules,
      search rules,
      search rules,
      search rules,
      left_before a.beat a.measures.now l.start l.end l.probes t l.invariant.4 (omega (arith, f.0, c.if-wanted-record.true)),
    )

pub returns-then-wanted-record-2 : goal.returns-then-wanted-record-2
unfolding Holds end_beat
returns-then-wanted-record-2 c =
    let a = c.args in
    let l = c.loop-start in
    let t = c.loop-start-test.true in
    let f = measure_fields c.measure_of-record.ensures in
    found_there a.beat a.measures.now l.invariant.0 l.start l.end l.probes l.invariant.4 t
    (omega (arith, f.0, c.if-wanted-record.false), omega (arith, f.0, f.1, c.if-wanted-record-2.true))

pub loop-start-preserved : goal.loop-start-preserved
unfolding Holds end_beat
loop-start-preserved c =
    let a = c.args in
    let l = c.loop-start in
    let t = c.loop-start-test.true in
    let f = measure_fields c.measure_of-record.ensures in (
      search rules,
      search rules,
      search rules,
      search rules,
      left_past a.beat a.measures.now l.start l.end l.probes t l.invariant.4 (omega (arith, f.0, f.1, c.if-wanted-record-2.false)),
    )

pub returns : goal.returns
returns c =
    let a = c.args in
    let l = c.loop-start in
    found_nowhere a.beat a.measures.now l.invariant.0 l.start l.end l.probes l.invariant.4 c.loop-start-test.false
