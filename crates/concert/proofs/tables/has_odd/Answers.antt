-- Some word is odd exactly if one passes the test.
use mathlib.Core.Path.{refl}
use borrow.Author.Rules.{rules}
use Rattle.std.proofs.lemmas.List.Recursion.{or_is}
use Rattle.songcode.specs.Lists.{any}
use Rattle.concert.specs.Moves.{is_odd}
use Rattle.concert.proofs.tables.has_odd.Goals as goal

pub returns : goal.returns
unfolding any
returns c = or_is (any is_odd) is_odd refl (λ _ _. refl) c.args.beats.now 0 _ (search rules) (search rules)
