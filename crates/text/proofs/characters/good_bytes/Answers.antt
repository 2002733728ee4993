-- What was passed, and the good bytes from there on, are the good bytes of the text.
use Prim.Native.Nat.{◌≤◌, ◌<◌, ◌+◌}
use mathlib.Core.Path.{◌≡◌, sym, ap, ◌∙◌}
use native.Mathlib.Omega.{arith}
use lib.ListN.{length, drop, length-drop}
use Rattle.songcode.specs.Answer.Characters.{good_bytes}
use Rattle.text.specs.Leads.{ascii_length}
use Rattle.text.proofs.ListLaws.{rest_part}
use Rattle.text.proofs.GoodLaws.{width_fits, width_some, good_ascii, good_behind, good_stop, good_more}
use Rattle.text.proofs.characters.good_bytes.Goals as goal
use Rattle.text.proofs.characters.good_bytes.Goals.{In-Some, After-ascii_len-i-in-Some}

-- A whole character is passed.
fits : (c : In-Some) → c.loop-width.i + c.in-Some.width ≤ length c.args.s.now
fits c = width_fits c.args.s.now c.loop-width.i c.in-Some.width c.in-Some.ensures

-- The characters of one byte behind it are passed, and they are good.
passed : (c : After-ascii_len-i-in-Some)
    → let s = c.args.s.now in
    let a = c.loop-width.i + c.in-Some.width + c.ascii_len-i-in-Some.result in
    (a ≤ length s) × (a + good_bytes 0 (drop a s) ≡ good_bytes 0 s) × (c.loop-width.i < a)
passed c =
    let s = c.args.s.now in
    let i = c.loop-width.i + c.in-Some.width in
    let k = c.ascii_len-i-in-Some.result in
    let l : k ≤ length (drop i s) = rw (rest_part s i) at c.ascii_len-i-in-Some.ensures.1 in
    let g = good_behind s i k (c.ascii_len-i-in-Some.ensures.0 ∙ ap ascii_length (rest_part s i)) in
    let m = good_more s c.loop-width.i c.in-Some.width c.in-Some.ensures in
    let w = width_some s c.loop-width.i c.in-Some.width c.in-Some.ensures in
    let n = length-drop i s in
    let f = fits (goal.at.loop-width-preserved c).In-Some in
    (omega arith, omega arith, omega arith)

pub loop-width-init : goal.loop-width-init
loop-width-init c = (
  c.ascii_len-i.ensures.1,
  rw (← c.ascii_len-i.ensures.0) at (sym (good_ascii c.args.s.now)),
)

pub overflow_add-i : goal.overflow_add-i
overflow_add-i c = omega (arith, fits c)

pub slice_bounds-ascii_len-count : goal.slice_bounds-ascii_len-count
slice_bounds-ascii_len-count c = fits c

pub slice_bounds-ascii_len-start : goal.slice_bounds-ascii_len-start
slice_bounds-ascii_len-start c = omega (arith, fits c)

pub overflow_add-i-in-Some : goal.overflow_add-i-in-Some
overflow_add-i-in-Some c = omega (arith, passed c)

pub loop-width-smaller : goal.loop-width-smaller
loop-width-smaller c = omega (arith, passed c)

pub loop-width-preserved : goal.loop-width-preserved
loop-width-preserved c = let p = passed c in (p.0, p.1)

pub returns : goal.returns
returns c = let g = good_stop c.args.s.now c.loop-width.i c.in_default.ensures in (omega arith, omega arith)
