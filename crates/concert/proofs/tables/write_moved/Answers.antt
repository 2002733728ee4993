-- `write_moved` meets its contract. The invariant: the first i words are moved, the second table holds what it held behind them.
use Rattle.concert.specs.Moves.{is_odd, moved_word, moved_table}
use Rattle.concert.proofs.TableLaws.{none_there, filled_more, filled_all}
use lib.IntN.{ℤ}
use lib.ListN.{length-set}
use lib.Seq.{sets}
use mathlib.Core.Path.{refl, ap, ◌∙◌}
use mir.Syntax.{w32}
use mir.Val.{to_z, of_z}
use mir.Facts.{to_z-of_z}
use Rattle.concert.proofs.tables.write_moved.Goals as goal

pub loop-i-init : goal.loop-i-init
loop-i-init c = (refl, refl)

pub moved_word-requires : goal.moved_word-requires
moved_word-requires c =
    let even = none_there is_odd c.args.beats.now c.loop-i.i c.requires.beats_value c.loop-i-test.true in record {
      word_value = even;
      shift_value = rw (to_z-of_z c.ranges.shift) c.requires.shift_value;
    }

pub loop-i-preserved : goal.loop-i-preserved
loop-i-preserved c =
    let a = c.args in
    let l = c.loop-i in
    let f = moved_word (to_z w32 (of_z w32 a.shift)) in
    let test = c.loop-i-test.true in
    let more = filled_more f a.beats.now a.second.now l.second l.i c.moved_word.result test l.invariant.1 in
    (simp length-set l.invariant.0, more c.moved_word.ensures)

pub returns : goal.returns
unfolding moved_table
returns c =
    let l = c.loop-i in
    let beats = c.args.beats.now in
    let second = c.args.second.now in
    let f = moved_word (to_z w32 (of_z w32 c.args.shift)) in
    l.invariant.1 ∙ filled_all f beats second l.i c.loop-i-test.false
    ∙ ap (λ (z : ℤ). sets second 0 (moved_table z beats)) (to_z-of_z c.ranges.shift)
