-- A token is passed, or the reading stops in front of it.
use mathlib.Core.Path.{refl, sym, ◌∙◌}
use native.Mathlib.Omega.{arith}
use Rattle.slips.proofs.ReadingLaws.{token_stuck, token_colon, token_passed, barred_or_not}
use Rattle.slips.proofs.patterns.read_token.Goals as goal

pub returns-then-is_stuck : goal.returns-then-is_stuck
returns-then-is_stuck c =
    let q = c.args in
    let d = c.step_check-check in
    λ ts at t f v l g.
    let b = g.behind in
    token_stuck q.whose ts at q.r g t f q.t.word v d.result d.ensures q.t.from q.t.next c.blame.result
    (sym c.is_stuck.ensures ∙ c.if-is_stuck.true) (c.blame.ensures (omega arith))

pub returns-then-is_barred : goal.returns-then-is_barred
returns-then-is_barred c =
    let q = c.args in
    let d = c.step_check-check in
    let side = c.if-is_barred.ensures in
    λ ts at t f v l g.
    let b = g.behind in
    token_colon q.whose ts at q.r g t f q.t.word v d.result d.ensures q.t.from q.t.next c.blame-then-is_barred.result
    side.0 (sym c.kind-sign.ensures ∙ side.1) (c.blame-then-is_barred.ensures (omega arith))

pub returns-then-sign-eq-OPENS : goal.returns-then-sign-eq-OPENS
returns-then-sign-eq-OPENS c =
    let q = c.args in
    let i = c.requires.0 in
    let d = c.step_check-check in
    let sign = c.kind-sign.ensures in
    λ ts at t f v l g.
    token_passed q.whose ts at q.r g t f q.t.word v d.result d.ensures q.t.from q.t.next _ (sym c.is_stuck.ensures ∙ c.if-is_stuck.false)
    (barred_or_not q.whose c.kind-sign.result sign c.if-is_barred.ensures)
    refl refl i i (λ y. refl) (λ n. absurd (n (sym sign ∙ c.if-sign-eq-OPENS.true)))

pub returns-else-sign-eq-OPENS : goal.returns-else-sign-eq-OPENS
returns-else-sign-eq-OPENS c =
    let q = c.args in
    let i = c.requires.0 in
    let d = c.step_check-check in
    let sign = c.kind-sign.ensures in
    λ ts at t f v l g.
    let o = g.opened in
    token_passed q.whose ts at q.r g t f q.t.word v d.result d.ensures q.t.from q.t.next _ (sym c.is_stuck.ensures ∙ c.if-is_stuck.false)
    (barred_or_not q.whose c.kind-sign.result sign c.if-is_barred.ensures)
    refl refl i (omega arith) (λ y. absurd (c.if-sign-eq-OPENS.false (sign ∙ y))) (λ n. refl)
