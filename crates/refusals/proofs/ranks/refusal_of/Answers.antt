-- By where the number lies: before that of "no section", at it, or behind it.
use Prim.Native.Nat.{◌%◌}
use mathlib.Core.Path.{refl, sym, ◌∙◌}
use borrow.Author.Tests.{lt-ltb, le-ltb, eq-eqb, ne_eqb}
use Rattle.songcode.specs.Lists.{provided◌then◌else◌}
use Rattle.refusals.specs.Refusals.{told}
use Rattle.refusals.specs.Ranks.{refusal_at}
use Rattle.refusals.proofs.NameLaws.{named, unnamed}
use Rattle.refusals.proofs.ranks.refusal_of.Goals as goal

pub returns-in_err-why : goal.returns-in_err-why
returns-in_err-why c =
    let none = sym c.ok.ensures.value ∙ c.in_err-why.was in
    absurd (unnamed (c.r.inside.number % 32) c.try_from.result c.try_from.ensures none (c.r.invariant c.if-number-lt-NO_SECTION.true))

pub returns-then-number-lt-NO_SECTION : goal.returns-then-number-lt-NO_SECTION
unfolding refusal_at provided◌then◌else◌ told
returns-then-number-lt-NO_SECTION c =
    let n = named (c.r.inside.number % 32) c.try_from.result c.in_ok-why.why c.try_from.ensures (sym c.ok.ensures.value ∙ c.in_ok-why.was) in
    rw (← c.r.view_is, lt-ltb _ _ c.if-number-lt-NO_SECTION.true, n) refl

pub returns-then-number-eq-NO_SECTION : goal.returns-then-number-eq-NO_SECTION
unfolding refusal_at provided◌then◌else◌ told
returns-then-number-eq-NO_SECTION c = rw (← c.r.view_is, le-ltb _ _ c.if-number-lt-NO_SECTION.false, eq-eqb _ _ c.if-number-eq-NO_SECTION.true) refl

pub returns : goal.returns
unfolding refusal_at provided◌then◌else◌ told
returns c = rw (← c.r.view_is, le-ltb _ _ c.if-number-lt-NO_SECTION.false, ne_eqb _ _ c.if-number-eq-NO_SECTION.false) refl
