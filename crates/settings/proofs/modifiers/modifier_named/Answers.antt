-- A case for each name, by the byte that tells it from the others.
use mathlib.Core.Bool.{false}
use mathlib.Core.Path.{◌≡◌, sym, ◌∙◌}
use borrow.Author.Tests.{tests}
use lib.Dec.{eqb}
use Rattle.std.proofs.Common.{rules}
use Rattle.songcode.specs.Lists.{provided◌then◌else◌}
use Rattle.songcode.specs.Bytes.{ascii}
use Rattle.settings.proofs.NameLaws.{modifier_lettered, modifier_by_letter}
use Rattle.settings.proofs.modifiers.modifier_named.Goals as goal

pub returns-in-116 : goal.returns-in-116
unfolding modifier_lettered ascii provided◌then◌else◌
returns-in-116 c = c.if_named.ensures ∙ modifier_by_letter c.args.w.now 116 (sym c.byte_at.ensures ∙ c.in-116.is)

pub returns-in-97 : goal.returns-in-97
unfolding modifier_lettered ascii provided◌then◌else◌
returns-in-97 c = c.if_named-in-97.ensures ∙ modifier_by_letter c.args.w.now 97 (sym c.byte_at.ensures ∙ c.in-97.is)

pub returns-in-100 : goal.returns-in-100
unfolding modifier_lettered ascii provided◌then◌else◌
returns-in-100 c = c.if_named-in-100.ensures ∙ modifier_by_letter c.args.w.now 100 (sym c.byte_at.ensures ∙ c.in-100.is)

pub returns-in-101 : goal.returns-in-101
unfolding modifier_lettered ascii provided◌then◌else◌
returns-in-101 c = c.if_named-in-101.ensures ∙ modifier_by_letter c.args.w.now 101 (sym c.byte_at.ensures ∙ c.in-101.is)

pub returns-in_default : goal.returns-in_default
unfolding modifier_lettered ascii provided◌then◌else◌
returns-in_default c =
    let n116 : eqb c.byte_at.result 116 ≡ false = search (rules, tests) in
    let n97 : eqb c.byte_at.result 97 ≡ false = search (rules, tests) in
    let n100 : eqb c.byte_at.result 100 ≡ false = search (rules, tests) in
    let n101 : eqb c.byte_at.result 101 ≡ false = search (rules, tests) in
    rw (← modifier_by_letter c.args.w.now c.byte_at.result (sym c.byte_at.ensures), n116, n97, n100, n101) c.if_named-in_default.ensures
