-- The plan says which beats of the pattern are kept; the texts beside it are counted.
use Rattle.std.proofs.Common.{◌+◌, ◌≤◌, arith}
use Rattle.songcode.specs.Lists.{times}
use Rattle.player.specs.Walks.{row_of}
use Rattle.player.proofs.ShortLaws.{short_times, short_row}
use Rattle.player.proofs.EvenLaws.{level_times}
use Rattle.player.proofs.CountingLaws.{plan_small, kept_meter, section_counted}
use Rattle.player.proofs.counting.count_even.Goals as goal
use Rattle.player.proofs.counting.count_even.Goals.{After-planned-plan}

-- What is kept of the pattern is small.
plan-fits : (c : After-planned-plan) → (c.planned-plan.result.skip + c.planned-plan.result.left ≤ 4294967295) × (c.planned-plan.result.left ≤ 4294967295)
plan-fits c =
    let x = c.args.a in
    let ws = c.args.words.now in
    let h = c.requires.0.countable in
    let row = row_of x.n ws x.pattern in
    let small = plan_small x.front x.back (times x.repeat row) (short_times x.repeat row (short_row x.n ws h.meter x.pattern))
    h.measures h.cuts in
    let skip = c.planned-plan.ensures.skip in
    let left = c.planned-plan.ensures.left in
    (omega (arith, small.0), omega (arith, small.1))

pub span-kept-requires : goal.span-kept-requires
span-kept-requires c =
    let x = c.args.a in
    let row = row_of x.n c.args.words.now x.pattern in
    let left = c.planned-plan.ensures.left in (
      λ some. kept_meter x.front x.back (times x.repeat row) x.n
          (level_times x.n x.repeat row (c.requires.0.countable.even c.requires.1).level)
          (λ z. some (omega arith)),
      (plan-fits (goal.at.span-kept-requires c).After-planned-plan).0,
    )

pub overflow_add-result-3 : goal.overflow_add-result-3
overflow_add-result-3 c =
    omega (arith, (plan-fits (goal.at.overflow_add-result-3 c).After-planned-plan).1, c.count_text-lead.ensures.bound.1)

pub overflow_add-result-4 : goal.overflow_add-result-4
overflow_add-result-4 c =
    omega (arith, (plan-fits (goal.at.overflow_add-result-4 c).After-planned-plan).1, c.count_text-lead.ensures.bound.1, c.count_text-tail.ensures.bound.1)

pub returns : goal.returns
returns c =
    let x = c.args.a in
    let ws = c.args.words.now in
    section_counted x.n x.even x.front x.back x.repeat (row_of x.n ws x.lead) (row_of x.n ws x.pattern) (row_of x.n ws x.tail)
    _ _ _ _ _ _ _ (c.requires.0.countable.even c.requires.1) c.planned-plan.ensures.skip c.planned-plan.ensures.left c.span-kept.ensures.0
    (c.count_text-lead.ensures.measures, c.count_text-lead.ensures.beats)
    (c.count_text-tail.ensures.measures, c.count_text-tail.ensures.beats)
