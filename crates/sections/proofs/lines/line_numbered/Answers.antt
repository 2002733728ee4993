-- Every line before has another number, so the line of the number is still to come or the one at hand.
use Prim.Native.Nat.{suc}
use mathlib.Core.Path.{◌≡◌, refl, sym, ap, ◌∙◌, subst}
use mathlib.Core.List.{Memᴰ}
use native.Mathlib.Omega.{arith}
use lib.ListN.{length}
use Rattle.text.specs.Spans.{spans}
use Rattle.text.proofs.WalkLaws.{spans_found, spans_over, line_past}
use Rattle.sections.proofs.LineLaws.{at_hand, met, behind, none_left, numbered}
use Rattle.sections.proofs.lines.line_numbered.Goals as goal

pub loop-at-init : goal.loop-at-init
unfolding spans
loop-at-init c = (omega arith, omega arith, omega arith, (λ l m e. m), (λ l m. m), omega arith)

pub returns-then-number-wanted : goal.returns-then-number-wanted
returns-then-number-wanted c =
    let s = c.args.s.now in
    let f = c.line_at-line.ensures in
    let t = c.loop-at-test.true in
    let i = c.loop-at.invariant in
    let low = i.0 in
    let few = i.1 in
    let a = f.number in
    let b = f.start in
    let d = f.next in
    let o = f.over in
    let here = i.4 c.line_at-line.result (at_hand s f t) in
    numbered s _ _ (λ l m e. met s f t l (i.3 l m e) (e ∙ sym c.if-number-wanted.true)) (λ n. absurd (n _ here (f.number ∙ c.if-number-wanted.true)))
    (omega arith) (omega arith) f.stop (omega arith)

pub loop-at-preserved : goal.loop-at-preserved
loop-at-preserved c =
    let s = c.args.s.now in
    let x = c.line_at-line.ensures in
    let t = c.loop-at-test.true in
    let i = c.loop-at.invariant in
    let o = x.onward in
    let y = x.start in
    let z = x.stop in
    let w = x.next in
    let v = x.over in
    let i1 = i.1 in
    let size = i.5 in
    let more = ap length (spans_found x t) in (
      omega arith,
      omega arith,
      omega arith,
      (λ l m e. behind s x t l (i.3 l m e) (λ k. c.if-number-wanted.false (sym k ∙ e))),
      (λ l m. i.4 l (subst (λ ls. Memᴰ l ls) (sym (spans_found x t)) (Memᴰ.tail m))),
      omega arith,
    )

pub returns : goal.returns
returns c =
    let s = c.args.s.now in
    let f = c.line_at.ensures in
    let n = c.loop-at.number in
    let at = c.loop-at.at in
    let t = c.loop-at-test.false in
    let i = c.loop-at.invariant in
    let low = i.0 in
    let few = i.1 in
    let a = f.number in
    let b = f.start in
    let d = f.next in
    let o = f.over in
    let size = i.5 in
    let rest = ap length (spans_over s n at t) in
    let count : n ≡ suc (length (spans s)) = omega arith in
    let end : at ≡ length s = omega arith in
    numbered s _ _ (λ l m e. absurd (none_left s n at l t (i.3 l m e))) (λ _. f.is ∙ sym (line_past s n at t) ∙ rw (count, end) refl)
    (omega arith) (omega arith) f.stop (omega arith)
