-- The bytes read are those of the word from the place on: no `m`, an `m` without `aj` behind it, or all of `maj`.
use Rattle.tokens.proofs.RowLaws.{minor_other, minor_here, minor_maj}
use Rattle.songcode.proofs.ListLaws.{by_cases}
use borrow.Author.Tests.{eqb-true, eqb-false}
use lib.Dec.{eqb}
use lib.ListN.{get_or, drop}
use lib.Seq.{get_or-drop}
use native.Mathlib.Nat.{add-zero}
use mathlib.Core.Bool.{not}
use mathlib.Core.Path.{◌≡◌, sym, ap, ◌∙◌}
use mathlib.Core.List.{List}
use Prim.Native.Nat.{ℕ}
use Rattle.tokens.proofs.bases.has_minor.Goals as goal

-- The bytes from the place on, as the code reads them.
first : (w : List ℕ) (i : ℕ) → get_or (drop i w) 0 0 ≡ get_or w i 0
first w i = get_or-drop i w 0 0 ∙ ap (λ k. get_or w k 0) (add-zero i)

pub returns-then-byte_at-ne109 : goal.returns-then-byte_at-ne109
returns-then-byte_at-ne109 c =
    let a = c.args in
    minor_other (drop a.i a.w.now) (λ z. c.if-byte_at-ne109.true (c.byte_at.ensures ∙ sym (first a.w.now a.i) ∙ z))

pub returns-then-byte_at-ne97 : goal.returns-then-byte_at-ne97
returns-then-byte_at-ne97 c =
    let a = c.args in
    let w = a.w.now in
    let i = a.i in
    minor_here
    (drop i w)
    (first w i ∙ sym c.byte_at.ensures ∙ c.if-byte_at-ne109.false)
    (λ z y. c.if-byte_at-ne97.true (c.byte_at-2.ensures ∙ sym (get_or-drop i w 1 0) ∙ z))

pub returns : goal.returns
returns c =
    let a = c.args in
    let w = a.w.now in
    let i = a.i in
    let m = first w i ∙ sym c.byte_at.ensures ∙ c.if-byte_at-ne109.false in
    let j = get_or-drop i w 1 0 ∙ sym c.byte_at-2.ensures ∙ c.if-byte_at-ne97.false in
    let k = c.byte_at-3.ensures ∙ sym (get_or-drop i w 2 0) in
    by_cases
    (eqb c.byte_at-3.result 106)
    (λ e. ap not e ∙ minor_maj (drop i w) m j (sym k ∙ eqb-true _ _ e))
    (λ e. ap not e ∙ minor_here (drop i w) m (λ z y. eqb-false _ _ e (k ∙ y)))
