-- The parts of a section one behind the other; the loop stands at a measure of the row, and falls by the beats that are left.
use Prim.Native.Nat.{◌≤◌}
use mathlib.Core.Path.{refl, ◌∙◌}
use native.Mathlib.Omega.{arith}
use Rattle.player.specs.Arrangements.{arranged_row}
use Rattle.flat.specs.Sheets.{puts}
use Rattle.flat.specs.Measures.{pattern_lines, Lent}
use Rattle.flat.proofs.PatternLaws.{stands_first, stands_within, lent_same, arranged_filled, arranged_short, arranged_total}
use Rattle.flat.proofs.PatternLaws.{Told, told_measures, told_beats, told_few, told_none, told_last, told_over, told_next}
use borrow.Author.Rules.{rules}
use Rattle.flat.proofs.patterns.put_pattern.Goals as goal
use Rattle.flat.proofs.patterns.put_pattern.Goals.{After-play_part-c, At-loop-x}

pub loop-x-init : goal.loop-x-init
loop-x-init c =
    (refl, refl, refl, c.requires.0, c.requires.1, stands_first c.args.s.now c.args.x.n _ _)

within : (c : At-loop-x) → c.loop-x.from ≤ 2097120
within c =
    let a = c.args in
    let w = stands_within _ _ _ _ _ _ c.loop-x.invariant.5 in
    let t = arranged_total a.words.now a.x c.loop-x.invariant.3 in
    omega arith

told : (c : After-play_part-c) →
    let l = c.loop-x in
    let a = c.args in
    let row = arranged_row a.words.now a.x in
    let tables = c.play_part-c.new in
    Told a.s.now a.x.n row l.measures l.beats tables.ms tables.bs l.from c.play_part-c.result (record { copy = l.copy; at = l.out })
    (puts (pattern_lines a.s.now a.x.n row) (record { copy = a.copy.now; at = a.at }))
told c =
    let l = c.loop-x in
    let a = c.args in
    let h = l.invariant in
    let e = c.play_part-c.ensures in
    record {
      filled = arranged_filled a.words.now a.x h.3;
      short = arranged_short a.words.now a.x h.3;
      lent = lent_same a.measures.now a.beats.now l.measures l.beats h.0 h.1 h.4;
      stands = h.5;
      plays = e;
    }

lent : (c : After-play_part-c) → let tables = c.play_part-c.new in Lent tables.ms tables.bs
lent c =
    let h = c.loop-x.invariant in
    lent_same _ _ _ _ (told_measures (told c) ∙ h.0) (told_beats (told c) ∙ h.1) h.4

pub put_measures-requires : goal.put_measures-requires
put_measures-requires c = (told_few (told (goal.at.put_measures-requires c).After-play_part-c)).0

pub returns-then-c-eq0 : goal.returns-then-c-eq0
returns-then-c-eq0 c = record {
  copy = told_none (told (goal.at.returns-then-c-eq0 c).After-play_part-c) _ c.if-c-eq0.true c.put_part.ensures;
  lent = lent (goal.at.returns-then-c-eq0 c).After-play_part-c;
}

pub returns-then-c-beats : goal.returns-then-c-beats
returns-then-c-beats c = record {
  copy = told_last (told (goal.at.returns-then-c-beats c).After-play_part-c) _ c.if-c-eq0.false c.if-c-beats.true c.put_measures.ensures;
  lent = lent (goal.at.returns-then-c-beats c).After-play_part-c;
}

pub put_measures-out-requires : goal.put_measures-out-requires
put_measures-out-requires c =
    let f = told_few (told (goal.at.put_measures-out-requires c).After-play_part-c) in
    omega (arith, f.0)

pub returns-then-out-gt65536 : goal.returns-then-out-gt65536
returns-then-out-gt65536 c = record {
  copy = told_over (told (goal.at.returns-then-out-gt65536 c).After-play_part-c) _ c.if-c-beats.false c.put_measures-out.ensures c.if-out-gt65536.true;
  lent = lent (goal.at.returns-then-out-gt65536 c).After-play_part-c;
}

pub offset_bounds-measures-whole : goal.offset_bounds-measures-whole
offset_bounds-measures-whole c =
    let f = told_few (told (goal.at.offset_bounds-measures-whole c).After-play_part-c) in
    omega (arith, f.1)

pub bounds-measures-whole : goal.bounds-measures-whole
bounds-measures-whole c =
    let f = told_few (told (goal.at.bounds-measures-whole c).After-play_part-c) in
    omega (arith, f.0, c.if-c-eq0.false)

pub overflow_add-from : goal.overflow_add-from
overflow_add-from c =
    let f = within (goal.at.overflow_add-from c).At-loop-x in
    omega (arith, c.measure_of-next.ensures.first_fits)

pub play_part-c-requires : goal.play_part-c-requires
play_part-c-requires c = (c.loop-x.invariant.3, within (goal.at.play_part-c-requires c).At-loop-x)

pub loop-x-smaller : goal.loop-x-smaller
loop-x-smaller c =
    let m = c.measure_of-next in
    let f = told_next (told (goal.at.loop-x-smaller c).After-play_part-c) _ c.if-c-beats.false c.put_measures-out.ensures m.result m.ensures in
    let w = stands_within _ _ _ _ _ _ f.0 in
    omega (arith, f.1)

pub loop-x-preserved : goal.loop-x-preserved
loop-x-preserved c =
    let h = c.loop-x.invariant in
    let m = c.measure_of-next in
    let t = told (goal.at.loop-x-preserved c).After-play_part-c in
    let f = told_next t _ c.if-c-beats.false c.put_measures-out.ensures m.result m.ensures in
    (told_measures t ∙ h.0, told_beats t ∙ h.1, search rules, h.3, h.4, f.0)
