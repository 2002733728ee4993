-- Each byte that is no tail begins a character.
use mathlib.Core.Path.{◌≡◌, ap, ◌∙◌}
use mathlib.Core.Bool.{not}
use Rattle.std.proofs.Common.{arith, take_all}
use Rattle.std.specs.List.{count_by}
use Rattle.std.proofs.lemmas.List.Sums.{count_by-le-length}
use Rattle.songcode.specs.Answer.Characters.{is_tail}
use Rattle.settings.proofs.PhraseLaws.{no_tails_counted}
use Rattle.settings.proofs.phrases.characters.Goals as goal

pub returns : goal.returns
returns c =
    let w = c.args.w.now in
    let e : c.loop-b.n ≡ count_by (λ b. not (is_tail b)) w =
    c.loop-b.invariant ∙ ap (count_by (λ b. not (is_tail b))) (take_all c.loop-b.b-index w c.loop-b-test.false) in
    (e ∙ no_tails_counted w, omega (arith, e, count_by-le-length (λ b. not (is_tail b)) w))
