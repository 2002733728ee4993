-- A case for each name, by the byte that tells it from the others.
use mathlib.Core.Bool.{false}
use mathlib.Core.Path.{◌≡◌, sym, ◌∙◌}
use borrow.Author.Tests.{tests}
use lib.Dec.{eqb}
use Rattle.std.proofs.Common.{rules}
use Rattle.songcode.specs.Lists.{provided◌then◌else◌}
use Rattle.songcode.specs.Bytes.{ascii}
use Rattle.settings.proofs.NameLaws.{key_lettered, key_by_letter}
use Rattle.settings.proofs.keys.key_named.Goals as goal

pub returns-in-110 : goal.returns-in-110
unfolding key_lettered ascii provided◌then◌else◌
returns-in-110 c = c.if_named.ensures ∙ key_by_letter c.args.w.now 110 (sym c.byte_at.ensures ∙ c.in-110.is)

pub returns-in-97 : goal.returns-in-97
unfolding key_lettered ascii provided◌then◌else◌
returns-in-97 c = c.if_named-in-97.ensures ∙ key_by_letter c.args.w.now 97 (sym c.byte_at.ensures ∙ c.in-97.is)

pub returns-in-111 : goal.returns-in-111
unfolding key_lettered ascii provided◌then◌else◌
returns-in-111 c = c.if_named-in-111.ensures ∙ key_by_letter c.args.w.now 111 (sym c.byte_at.ensures ∙ c.in-111.is)

pub returns-in-99 : goal.returns-in-99
unfolding key_lettered ascii provided◌then◌else◌
returns-in-99 c = c.if_named-in-99.ensures ∙ key_by_letter c.args.w.now 99 (sym c.byte_at.ensures ∙ c.in-99.is)

pub returns-in-98 : goal.returns-in-98
unfolding key_lettered ascii provided◌then◌else◌
returns-in-98 c = c.if_named-in-98.ensures ∙ key_by_letter c.args.w.now 98 (sym c.byte_at.ensures ∙ c.in-98.is)

pub returns-in-116 : goal.returns-in-116
unfolding key_lettered ascii provided◌then◌else◌
returns-in-116 c = c.if_named-in-116.ensures ∙ key_by_letter c.args.w.now 116 (sym c.byte_at.ensures ∙ c.in-116.is)

pub returns-in-119 : goal.returns-in-119
unfolding key_lettered ascii provided◌then◌else◌
returns-in-119 c = c.if_named-in-119.ensures ∙ key_by_letter c.args.w.now 119 (sym c.byte_at.ensures ∙ c.in-119.is)

pub returns-in-101 : goal.returns-in-101
unfolding key_lettered ascii provided◌then◌else◌
returns-in-101 c = c.if_named-in-101.ensures ∙ key_by_letter c.args.w.now 101 (sym c.byte_at.ensures ∙ c.in-101.is)

pub returns-in_default : goal.returns-in_default
unfolding key_lettered ascii provided◌then◌else◌
returns-in_default c =
    let n110 : eqb c.byte_at.result 110 ≡ false = search (rules, tests) in
    let n97 : eqb c.byte_at.result 97 ≡ false = search (rules, tests) in
    let n111 : eqb c.byte_at.result 111 ≡ false = search (rules, tests) in
    let n99 : eqb c.byte_at.result 99 ≡ false = search (rules, tests) in
    let n98 : eqb c.byte_at.result 98 ≡ false = search (rules, tests) in
    let n116 : eqb c.byte_at.result 116 ≡ false = search (rules, tests) in
    let n119 : eqb c.byte_at.result 119 ≡ false = search (rules, tests) in
    let n101 : eqb c.byte_at.result 101 ≡ false = search (rules, tests) in
    rw (← key_by_letter c.args.w.now c.byte_at.result (sym c.byte_at.ensures), n110, n97, n111, n99, n98, n116, n119, n101)
