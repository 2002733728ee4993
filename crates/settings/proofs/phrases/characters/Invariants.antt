-- So many of the bytes seen are no tails.
use mathlib.Core.Path.{◌≡◌}
use mathlib.Core.Bool.{not}
use lib.ListN.{take}
use Rattle.std.specs.List.{count_by}
use Rattle.songcode.specs.Answer.Characters.{is_tail}
use Rattle.settings.proofs.phrases.characters.Given as goal

abbrev pub invariant-loop-b : goal.invariant-loop-b
invariant-loop-b l = l.n ≡ count_by (λ b. not (is_tail b)) (take l.b-index l.w)
