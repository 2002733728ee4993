-- The line is put together from its pieces, and its places stand in order.
use Prim.Native.Nat.{◌+◌, ◌-◌, ◌≤◌}
use mathlib.Core.Path.{refl}
use native.Mathlib.Omega.{arith}
use Rattle.text.proofs.WalkLaws.{part_length, line_past, line_is, line_onward}
use Rattle.text.proofs.lines.line_at.Goals as goal

pub returns-then-s-at : goal.returns-then-s-at
returns-then-s-at c =
    record {
      is = line_past c.args.s.now _ _ c.if-s-at.true;
      number = refl;
      start = omega arith;
      stop = omega arith;
      next = omega arith;
      over = omega arith;
      onward = omega arith;
    }

pub returns : goal.returns
returns c =
    let s = c.args.s.now in
    let at = c.args.at in
    let e = c.line_end-e.result in
    let f = c.front_blanks.result in
    let h = c.line_end-e.ensures in
    let blanks = c.front_blanks.ensures in
    let solid = c.solid_len-k.ensures in
    let b : f ≤ e - at = rw (part_length s at e (omega arith)) at blanks.1 in
    let k : c.solid_len-k.result ≤ e - (at + f) = rw (part_length s (at + f) e (omega arith)) at solid.1 in
    record {
      is = line_is s _ at e f _ _ h.0 blanks.0 solid.0 c.break_len-w.ensures.0;
      number = refl;
      start = omega arith;
      stop = omega arith;
      next = omega arith;
      over = omega arith;
      onward = omega (arith, line_onward s at e _ c.if-s-at.false h.0 c.break_len-w.ensures.0);
    }
