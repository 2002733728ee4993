-- The list of a kind is its column of the table, shown place by place; a wrong token leads to the bad place from everywhere.
use mathlib.Core.Path.{◌≡◌, refl, ◌∙◌}
use mathlib.Core.List.{List, [], ◌∷◌, map}
use lib.ListN.{get_or}
use Rattle.grammar.specs.declared.kinds.Kind.{Kind}
use Rattle.grammar.specs.declared.kinds.Kind.TheVariants.{Sound, Remover, Reference, Semicolon, Colon, LineEnd, Opens, Closes, Wrong}
use Rattle.grammar.specs.declared.checks.Place.{Place}
use Rattle.grammar.specs.declared.checks.Place.TheVariants.{Fresh, Wants, Joins, Sounds, Removed, Alone, Full, Ended, Bad}
use Rattle.grammar.specs.Places.{row, next_place}
use Rattle.grammar.proofs.ArmLaws.{of_place}
use Rattle.grammar.proofs.checks.next_place.Goals as goal

-- A list of the code has for each place what the table has for it.
abbrev places : List Place
places = Fresh ∷ Wants ∷ Joins ∷ Sounds ∷ Removed ∷ Alone ∷ Full ∷ Ended ∷ Bad ∷ []

turned : (k : Kind) (p : Place) → get_or (map (λ q. next_place q k) places) (row p) Fresh ≡ next_place p k
turned k = of_place (λ p. get_or (map (λ q. next_place q k) places) (row p) Fresh ≡ next_place p k) refl refl refl refl refl refl refl refl refl

-- A wrong token leads nowhere.
nowhere : (p : Place) → Bad ≡ next_place p Wrong
nowhere = of_place (λ p. Bad ≡ next_place p Wrong) refl refl refl refl refl refl refl refl refl

pub returns-in-Sound : goal.returns-in-Sound
returns-in-Sound c = rw c.in-Sound.is (c.at_place.ensures ∙ turned Sound c.args.place)

pub returns-in-Remover : goal.returns-in-Remover
returns-in-Remover c = rw c.in-Remover.is (c.at_place-in-Remover.ensures ∙ turned Remover c.args.place)

pub returns-in-Reference : goal.returns-in-Reference
returns-in-Reference c = rw c.in-Reference.is (c.at_place-in-Reference.ensures ∙ turned Reference c.args.place)

pub returns-in-Semicolon : goal.returns-in-Semicolon
returns-in-Semicolon c = rw c.in-Semicolon.is (c.at_place-in-Semicolon.ensures ∙ turned Semicolon c.args.place)

pub returns-in-Colon : goal.returns-in-Colon
returns-in-Colon c = rw c.in-Colon.is (c.at_place-in-Colon.ensures ∙ turned Colon c.args.place)

pub returns-in-LineEnd : goal.returns-in-LineEnd
returns-in-LineEnd c = rw c.in-LineEnd.is (c.at_place-in-LineEnd.ensures ∙ turned LineEnd c.args.place)

pub returns-in-Opens : goal.returns-in-Opens
returns-in-Opens c = rw c.in-Opens.is (c.at_place-in-Opens.ensures ∙ turned Opens c.args.place)

pub returns-in-Closes : goal.returns-in-Closes
returns-in-Closes c = rw c.in-Closes.is (c.at_place-in-Closes.ensures ∙ turned Closes c.args.place)

pub returns-in-Wrong : goal.returns-in-Wrong
returns-in-Wrong c = rw c.in-Wrong.is (nowhere c.args.place)
