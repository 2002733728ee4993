-- `turnipcart_find` meets its contract: the three numbers that it lays down are those that `seek::find_measure` promises, as told to C.
use mathlib.Core.Path.{◌≡◌, refl, ap}
use borrow.Author.Rules.{rules}
use Rattle.seek.specs.Answers.{refused}
use Rattle.turnipcart.specs.Answers.{refusal_number, found_in, found_told}
use Rattle.turnipcart.proofs.find.turnipcart_find.Goals as goal

pub returns : goal.returns
unfolding found_in found_told
returns c =
    let number : c.map_or-refusal.result ≡ refusal_number (refused c.find_measure-f.result.place) = search rules in
    record { refused = refl; halved = rw (number, c.unwrap_or.ensures) (ap found_told c.find_measure-f.ensures) }
