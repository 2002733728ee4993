-- The root and an allowed shift make a small sum, whose remainder is the root moved.
use mathlib.Core.Path.{◌∙◌}
use native.Mathlib.Omega.{arith}
use Rattle.std.proofs.lemmas.Int.{ints}
use Rattle.concert.proofs.BaseLaws.{moved_below}
use Rattle.concert.proofs.RootLaws.{allowed_small, root_reduced}
use Rattle.concert.proofs.pitches.moved_root.Goals as goal

pub overflow_add-moved : goal.overflow_add-moved
overflow_add-moved c =
    let s = allowed_small c.args.shift c.requires.shift_value in
    omega (arith, ints, s.not_low, s.not_high, c.from.ensures, c.requires.root_bound)

pub returns-clause-value : goal.returns-clause-value
returns-clause-value c =
    let s = allowed_small c.args.shift c.requires.shift_value in
    let below = moved_below c.args.shift c.args.root in
    omega (
      arith,
      ints,
      below,
      c.rem_euclid.ensures.value
          ∙ root_reduced c.args.root c.args.shift _ (omega (arith, ints, s.not_low, s.not_high, c.from.ensures, c.requires.root_bound)),
    )
