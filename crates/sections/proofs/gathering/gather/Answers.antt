-- At every line: each setting found so far, or else the first of its number in the lines that are left, is the first of the run.
use Rattle.sections.proofs.SlotLaws.{left_none, left_over, left_found}
use Rattle.sections.proofs.GatherLaws.{sought_start, sought_passed, sought_again, sought_first, sought_end}
use Rattle.sections.specs.Runs.{lines_of}
use Prim.Native.Nat.{◌-◌, ◌+◌}
use mathlib.Core.Path.{◌≡◌, ap, ◌∙◌}
use mathlib.Core.Bool.{not}
use native.Mathlib.Omega.{arith}
use Rattle.sections.proofs.gathering.gather.Goals as goal
use Rattle.sections.proofs.gathering.gather.Goals.{then-slot-lt-SLOTS+then-is_none, else-slot-lt-SLOTS, else-slot-lt-SLOTS-via-then-slot-lt-SLOTS+else-is_none}
use Rattle.sections.proofs.gathering.gather.Goals.{else-slot-lt-SLOTS-via-else-slot-lt-SLOTS}

pub loop-init : goal.loop-init
unfolding lines_of
loop-init c =
    let all : c.args.run.lines - 0 ≡ c.args.run.lines = omega arith in
    (omega arith, omega arith, omega arith, rw all (sought_start c.args.s.now (lines_of c.args.s.now c.args.run)))

pub loop-preserved : goal.loop-preserved
loop-preserved c =
    let found = c.line_at-line.ensures in
    let here = left_found c.args.s.now c.loop.n c.loop.at (c.args.run.lines - c.loop.counter) (c.args.run.lines - (c.loop.counter + 1)) (omega arith)
    found (omega arith) in
    let slot = c.slot_of-slot.ensures.0 in
    let inv = c.loop.invariant.3 in (
      omega arith,
      omega arith,
      omega arith,
      elim c.if-slot-lt-SLOTS.branch [
        | then-slot-lt-SLOTS+then-is_none w ↦ rw w.first-is
            (sought_first here slot inv w.said_on.ensures (w.is_none.ensures ∙ ap not w.if-is_none.true) w.if-slot-lt-SLOTS.true)
        | else-slot-lt-SLOTS w ↦ elim w.else-slot-lt-SLOTS.branch [
          | else-slot-lt-SLOTS-via-then-slot-lt-SLOTS+else-is_none v ↦ rw w.first-is
              (sought_again here slot inv (v.is_none.ensures ∙ ap not v.if-is_none.false))
          | else-slot-lt-SLOTS-via-else-slot-lt-SLOTS v ↦ rw w.first-is (sought_passed here slot inv v.if-slot-lt-SLOTS.false)
        ]
      ],
    )

pub returns-then-at-s : goal.returns-then-at-s
unfolding lines_of
returns-then-at-s c =
    let s = c.args.s.now in
    sought_end (left_over s c.loop.n c.loop.at (c.args.run.lines - c.loop.counter) (omega arith)) c.loop.invariant.3

pub returns-after-loop : goal.returns-after-loop
unfolding lines_of
returns-after-loop c =
    let s = c.args.s.now in
    sought_end (left_none s c.loop.n c.loop.at (c.args.run.lines - c.loop.counter) (omega arith)) c.loop.invariant.3
