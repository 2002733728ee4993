-- Each part by what its function tells; the room that the sums need is what is demanded of them.
use Rattle.judging.specs.Singing.{sung_with}
use Rattle.judging.proofs.singing.sung_with.Goals as goal

pub returns : goal.returns
unfolding sung_with
returns c =
    rw (
      c.with_section-sums.ensures,
      c.has_prompts.ensures,
      c.off_with-off.ensures,
      c.sum_differs.ensures,
      c.taken_with-taken.ensures,
    )
