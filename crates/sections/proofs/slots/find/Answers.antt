-- At every line: the first setting of that slot in the lines that are left is the first of the run.
use Rattle.sections.proofs.SlotLaws.{setting_none, among_here, among_later, among_none, left_none, left_over, left_found}
use Rattle.sections.specs.Runs.{lines_of}
use native.Mathlib.Omega.{arith}
use Prim.Native.Nat.{◌-◌, ◌+◌}
use mathlib.Core.Path.{◌≡◌, refl, sym, ◌∙◌}
use Rattle.sections.proofs.slots.find.Goals as goal

pub loop-init : goal.loop-init
unfolding lines_of
loop-init c =
    let all : c.args.run.lines - 0 ≡ c.args.run.lines = omega arith in
    (omega arith, omega arith, omega arith, rw all refl)

pub returns-then-at-s : goal.returns-then-at-s
returns-then-at-s c = let a = c.args in
    let over = left_over a.s.now c.loop.n c.loop.at (a.run.lines - c.loop.counter) (omega arith) in
    (setting_none a.s.now ∙ sym (among_none a.slot over) ∙ c.loop.invariant.3, Prim.tt)

pub returns-then-slot_of-slot : goal.returns-then-slot_of-slot
returns-then-slot_of-slot c = let a = c.args in
    let says = c.said_on.ensures in
    let here = left_found a.s.now c.loop.n c.loop.at (a.run.lines - c.loop.counter) (a.run.lines - (c.loop.counter + 1)) (omega arith)
    c.line_at-line.ensures (omega arith) in (
      says.setting c.requires.3 ∙ sym (among_here a.slot here
          (sym c.slot_of.ensures.0 ∙ c.if-slot_of-slot.true)) ∙ c.loop.invariant.3,
      says.inside,
    )

pub loop-preserved : goal.loop-preserved
loop-preserved c = let a = c.args in
    let here = left_found a.s.now c.loop.n c.loop.at (a.run.lines - c.loop.counter) (a.run.lines - (c.loop.counter + 1)) (omega arith)
    c.line_at-line.ensures (omega arith) in
    let later = among_later a.slot here (λ i. c.if-slot_of-slot.false (c.slot_of.ensures.0 ∙ i)) in
    (omega arith, omega arith, omega arith, sym later ∙ c.loop.invariant.3)

pub returns-after-loop : goal.returns-after-loop
returns-after-loop c = let a = c.args in
    let over = left_none a.s.now c.loop.n c.loop.at (a.run.lines - c.loop.counter) (omega arith) in
    (setting_none a.s.now ∙ sym (among_none a.slot over) ∙ c.loop.invariant.3, Prim.tt)
