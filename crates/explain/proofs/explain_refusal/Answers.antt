-- Where the verdict names no line there is no place, else the slip that is found keeps what its refusal promises.
use Prim.Native.Nat.{ℕ, ◌≤◌}
use mathlib.Core.Path.{◌≡◌, ◌∙◌, subst}
use lib.ListN.{get_or}
use Rattle.refusals.specs.Names.{number_of}
use Rattle.reader.specs.Room.{refused_with}
use Rattle.explain.specs.Causes.{Belongs, clauses, clause_of_cause}
use Rattle.explain.proofs.ExplainLaws.{found_nowhere, found_at}
use Rattle.explain.proofs.explain_refusal.Goals as goal

pub returns-then-e-eq0 : goal.returns-then-e-eq0
returns-then-e-eq0 c =
    let e = c.args.e in
    let k = c.from-number.ensures in
    let n = c.nowhere.ensures in
    let belongs = subst (λ (m : ℕ). m ≤ 17 → Belongs m c.cause_of.result) k c.cause_of.ensures.0 in
    found_nowhere c.args.text.now (refused_with (number_of e.why) e.line) c.requires.0 c.cause_of.result belongs c.nowhere.result
    c.if-e-eq0.true (n.0 ∙ k, n.1, n.2, n.3, n.4, n.5)

pub returns : goal.returns
returns c =
    let e = c.args.e in
    let q = c.args.text.now in
    let y = c.slip_in-found in
    let x = c.with_sums-x in
    let s = x.ensures in
    let k = c.from-number.ensures in
    let n = c.at_place.ensures in
    let cause = c.cause_of-2.result in
    let belongs = subst (λ (m : ℕ). m ≤ 17 → Belongs m cause) k c.cause_of-2.ensures.0 in
    let clause = x.result.clause in
    let told = subst (λ (m : ℕ). m ≤ 17 → clause ≤ 99 → clause ≤ get_or clauses m 0 → clause_of_cause cause ≡ clause) k c.cause_of-2.ensures.1 in
    let p = c.place_at-p in
    found_at q (refused_with (number_of e.why) e.line) c.requires.0 cause belongs c.at_place.result c.time_for.result c.time_for.ensures
    x.result s.4 (λ h. s.0 c.time_for.result (y.ensures h)) p.result p.ensures.0 p.ensures.1 p.ensures.2 told c.if-e-eq0.false
    (n.0 ∙ k, n.1, n.2, n.3, n.4, n.5)
