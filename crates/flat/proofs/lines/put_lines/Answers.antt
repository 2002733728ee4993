-- Line by line: the lines that are left, put on the sheet so far, give what the whole run gives on the first sheet.
use Prim.Native.Nat.{◌-◌, ◌+◌}
use mathlib.Core.Path.{◌≡◌, refl, sym, ◌∙◌}
use native.Mathlib.Omega.{arith}
use Rattle.sections.specs.Runs.{lines_of}
use Rattle.flat.proofs.LineLaws.{lines_none, none_over, lines_step}
use borrow.Author.Rules.{rules}
use Rattle.flat.proofs.lines.put_lines.Goals as goal

pub loop-init : goal.loop-init
unfolding lines_of
loop-init c =
    let p = c.requires in
    let all : c.args.run.lines - 0 ≡ c.args.run.lines = omega arith in
    (p.number, p.counted, p.inside, refl, rw all refl)

pub returns-then-from-s : goal.returns-then-from-s
returns-then-from-s c =
    let l = c.loop in
    sym (none_over c.args.s.now l.number l.from (c.args.run.lines - l.counter) _ (omega arith)) ∙ l.invariant.4

pub loop-preserved : goal.loop-preserved
loop-preserved c =
    let l = c.loop in
    let s = c.args.s.now in
    let left = c.args.run.lines - l.counter in
    let found = c.line_at-line.ensures in
    let one : left - 1 ≡ c.args.run.lines - (l.counter + 1) = omega arith in
    let more = lines_step s l.number l.from left _ _ _ found (omega arith) (omega arith) c.put_line-out.ensures l.invariant.4 in
    (omega arith, omega arith, omega arith, search rules, rw one at more)

pub returns-after-loop : goal.returns-after-loop
returns-after-loop c =
    let l = c.loop in
    sym (lines_none c.args.s.now l.number l.from (c.args.run.lines - l.counter) _ (omega arith)) ∙ l.invariant.4
