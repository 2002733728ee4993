-- Word by word: the faults so far, read on over the words that are left, are those of the whole stretch.
use Rattle.std.proofs.Common.{refl, sym, ap, ◌∙◌, drop, ◌+◌}
use Rattle.std.proofs.lemmas.List.{at_drop_more, at_drop_all}
use Rattle.outlines.specs.Words.{look_up, is_missing}
use Rattle.outlines.specs.declared.faults.Faults.{Faults}
use Rattle.outlines.specs.Faults.{all_faults, faultless, fault_told, fault_in}
use Rattle.outlines.proofs.faults.reference_fault.Goals as goal

pub loop-w-init : goal.loop-w-init
unfolding faultless
loop-w-init c = let e = c.default-f.ensures in rw (e.0, e.1.0, e.1.1) refl

pub loop-w-preserved : goal.loop-w-preserved
unfolding all_faults
loop-w-preserved c =
    let missing = is_missing c.args.words.now in
    let find = look_up c.args.words.now in
    let ws = c.words-w-items.result.now in
    let l = c.loop-w in
    ap (λ (f : Faults). all_faults missing find f (drop (l.w-index + 1) ws)) c.judge_word-f.ensures
    ∙ sym (at_drop_more (all_faults missing find l.f) ws l.w-index 0 c.loop-w-test.true) ∙ l.invariant

pub returns : goal.returns
unfolding all_faults fault_in
returns c =
    let missing = is_missing c.args.words.now in
    let find = look_up c.args.words.now in
    let ws = c.words-w-items.result.now in
    let l = c.loop-w in
    c.fault_told.ensures
    ∙ ap fault_told (sym (at_drop_all (all_faults missing find l.f) ws l.w-index c.loop-w-test.false) ∙ l.invariant)
    ∙ ap (fault_in missing find) c.words-w-items.ensures
