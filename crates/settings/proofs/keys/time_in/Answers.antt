-- The text is parted at its first slash: behind it stands `/4` or there is no time, and before it the number is read.
use mathlib.Core.Path.{sym, ap, ◌∙◌}
use lib.Seq.{length-take-le}
use borrow.Author.Tests.{not-true, not-false}
use Rattle.songcode.specs.Bytes.{ascii, same}
use Rattle.tokens.specs.Decimals.{number_of}
use Rattle.text.proofs.ListLaws.{rest_part}
use Rattle.settings.proofs.ReadLaws.{time_none, time_some}
use Rattle.settings.proofs.keys.time_in.Goals as goal

pub returns-then-not-same_text : goal.returns-then-not-same_text
unfolding ascii number_of
returns-then-not-same_text c = let w = c.args.w.now in
    let k = c.length_before-q.result in
    let m = ap (same (ascii "/4")) (rest_part w k) in
    sym (ap number_of (time_none w k c.length_before-q.ensures.0 (c.same_text.ensures ∙ m) (not-true _ c.if-not-same_text.true-raw)))

pub slice_bounds-number_in-end : goal.slice_bounds-number_in-end
slice_bounds-number_in-end c = sym (length-take-le _ _ c.length_before-q.ensures.1)

pub returns : goal.returns
unfolding ascii number_of
returns c = let w = c.args.w.now in
    let k = c.length_before-q.result in
    let m = ap (same (ascii "/4")) (rest_part w k) in
    c.number_in.ensures ∙ sym (ap number_of (time_some w k c.length_before-q.ensures.0 (c.same_text.ensures ∙ m) (not-false _ c.if-not-same_text.false-raw)))
