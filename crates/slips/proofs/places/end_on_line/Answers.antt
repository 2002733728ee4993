-- Where a line end stands before the place that is asked for, more than one line is asked for; a byte that ends no line is passed.
use mathlib.Core.Path.{◌∙◌}
use native.Mathlib.Omega.{arith}
use lib.ListN.{get_or}
use Rattle.slips.proofs.PlaceLaws.{same_line}
use Rattle.slips.proofs.FindLaws.{no_lf, no_cr}
use Rattle.slips.proofs.places.end_on_line.Goals as goal

pub returns-then-s-i-eq10-clause-value : goal.returns-then-s-i-eq10-clause-value
returns-then-s-i-eq10-clause-value c =
    let l = c.loop-i in
    let b = c.if-to-i.false in
    λ h k u. absurd (no_lf (get_or c.args.s.now l.i 0) (u l.i l.auto.i b) c.if-s-i-eq10.true)

pub returns-then-s-i-eq13-clause-value : goal.returns-then-s-i-eq13-clause-value
returns-then-s-i-eq13-clause-value c =
    let l = c.loop-i in
    let b = c.if-to-i.false in
    λ h k u. absurd (no_cr (get_or c.args.s.now l.i 0) (u l.i l.auto.i b) c.if-s-i-eq13.true)

pub loop-i-preserved : goal.loop-i-preserved
loop-i-preserved c =
    let l = c.loop-i in
    let b = c.if-to-i.false in
    (same_line c.args.s.now l.i c.loop-i-test.true c.if-s-i-eq10.false c.if-s-i-eq13.false ∙ l.invariant.0, λ h. omega arith)
