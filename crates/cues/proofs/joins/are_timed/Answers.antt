-- Every section is timed exactly if each passes the test.
use mathlib.Core.Path.{refl}
use borrow.Author.Rules.{rules}
use Rattle.std.proofs.lemmas.List.Recursion.{and_is}
use Rattle.songcode.specs.Lists.{every}
use Rattle.cues.specs.Cues.{is_timed}
use Rattle.cues.proofs.joins.are_timed.Goals as goal

pub returns : goal.returns
unfolding every
returns c = and_is (every is_timed) is_timed refl (λ _ _. refl) c.args.sections.now 0 _ (search rules) (search rules)
