-- From head to head: at the mark, at the definition, past it, past the last one.
use Prim.Native.Nat.{◌+◌, ◌-◌}
use mathlib.Core.Path.{sym, ap, ◌∙◌}
use native.Mathlib.Omega.{arith}
use Rattle.score.specs.Places.{place_by, place_of}
use Rattle.score.proofs.PlaceLaws.{place_at_mark, place_found, place_more, place_over}
use Rattle.score.proofs.definitions.place_of.Goals as goal
use Rattle.score.proofs.definitions.place_of.Goals.{then-length-eq0-via-then-length-eq0, then-length-eq0-via-else-length-eq0+then-id_at-x}

pub returns-then-length-eq0 : goal.returns-then-length-eq0
unfolding place_of
returns-then-length-eq0 c =
    let a = c.args in
    let l = c.loop in (
      elim c.then-length-eq0.branch [
        | then-length-eq0-via-then-length-eq0 w ↦ sym (place_at_mark a.words.now 26 l.counter l.at a.x c.loop-test.true
            (sym c.length_at-length.ensures.0 ∙ w.if-length-eq0.true)) ∙ l.invariant.1
        | then-length-eq0-via-else-length-eq0+then-id_at-x w ↦ sym (place_found a.words.now 26 l.counter l.at a.x c.loop-test.true
            (λ z. w.if-length-eq0.false (c.length_at-length.ensures.0 ∙ z))
            (sym w.id_at.ensures ∙ w.if-id_at-x.true)) ∙ l.invariant.1
      ],
      omega arith,
    )

pub loop-preserved : goal.loop-preserved
loop-preserved c =
    let a = c.args in
    let l = c.loop in (
      omega arith,
      ap (λ k. place_by (26 - (l.counter + 1)) a.words.now (l.at + k) a.x) c.length_at-length.ensures.0
          ∙ sym (place_more a.words.now 26 l.counter l.at a.x c.loop-test.true
          (λ z. c.if-length-eq0.false (c.length_at-length.ensures.0 ∙ z))
          (λ z. c.if-id_at-x.false (c.id_at.ensures ∙ z))) ∙ l.invariant.1,
    )

pub returns : goal.returns
unfolding place_of
returns c =
    let a = c.args in
    let l = c.loop in (
      sym (place_over a.words.now 26 l.counter l.at a.x c.loop-test.false) ∙ l.invariant.1,
      omega arith,
    )
