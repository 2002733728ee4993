-- No dash, a dash in front, or one further on: in each form the same two numbers are read, and what is read is at most 9,999.
use mathlib.Core.Path.{refl, sym, ap, ◌∙◌}
use native.Mathlib.Omega.{arith}
use Prim.Native.Nat.{◌+◌}
use mathlib.Core.Option.{some}
use lib.ListN.{take, drop}
use lib.Seq.{length-take-le}
use Rattle.songcode.specs.Answer.Numbers.{count_in}
use Rattle.songcode.specs.Bytes.{placed}
use Rattle.tokens.specs.Decimals.{number_of}
use Rattle.text.proofs.ListLaws.{rest_part}
use Rattle.settings.proofs.CutLaws.{cut_whole, cut_beats, cut_both}
use Rattle.settings.proofs.ReadLaws.{cut_read_lem}
use Rattle.settings.proofs.cutting.cut_in.Goals as goal

pub returns-then-q-w : goal.returns-then-q-w
unfolding count_in number_of
returns-then-q-w c = let w = c.args.w.now in
    cut_read_lem (placed 0 w) (count_in (placed 0 w)) (some 0) (cut_whole 0 w (sym c.if-q-w.true ∙ c.length_before-q.ensures.0))
    c.number_in.ensures refl c.cut_of.ensures

pub returns-then-q-eq0 : goal.returns-then-q-eq0
unfolding count_in number_of
returns-then-q-eq0 c = let w = c.args.w.now in
    let e = c.if-q-eq0.true in
    let m = ap (λ v. number_of (count_in (placed 0 v))) (rest_part w 1) in
    cut_read_lem (placed 0 w) (some 0) (count_in (placed 0 (drop 1 w))) (cut_beats 0 w (sym e ∙ c.length_before-q.ensures.0) (omega arith)) refl
    (c.number_in-then-q-eq0.ensures ∙ m) c.cut_of-then-q-eq0.ensures

pub slice_bounds-number_in-end-2 : goal.slice_bounds-number_in-end-2
slice_bounds-number_in-end-2 c = sym (length-take-le _ _ c.length_before-q.ensures.1)

pub returns : goal.returns
unfolding count_in number_of
returns c = let w = c.args.w.now in
    let k = c.length_before-q.result in
    let m = ap (λ v. number_of (count_in (placed 0 v))) (rest_part w (k + 1)) in
    cut_read_lem (placed 0 w) (count_in (placed 0 (take k w))) (count_in (placed 0 (drop (k + 1) w)))
    (cut_both 0 w k c.length_before-q.ensures.0 (omega (arith, c.if-q-eq0.false)) (omega (arith, c.if-q-w.false)))
    c.number_in-2.ensures (c.number_in-3.ensures ∙ m) c.cut_of-2.ensures
