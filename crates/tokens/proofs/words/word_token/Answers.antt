-- A word that is one sign is that sign's token; one that begins as a reference is a reference, and any other is wrong.
use Rattle.tokens.proofs.WordLaws.{word_again, word_silence, word_remover, word_reference, word_chord, chord_no_letter}
use Rattle.tokens.proofs.PartLaws.{part_cons}
use Rattle.text.specs.Spans.{part}
use mathlib.Core.List.{◌∷◌}
use lib.ListN.{get_or}
use native.Mathlib.Omega.{arith}
use mathlib.Core.Path.{sym, ap, ◌∙◌}
use Prim.Native.Nat.{◌+◌}
use Rattle.tokens.proofs.words.word_token.Goals as goal

pub returns-then-is_sign : goal.returns-then-is_sign
returns-then-is_sign c =
    let a = c.args in
    let s = a.s.now in
    let w = part a.a a.e s in
    word_again a.a w (sym c.if-is_sign.true ∙ c.is_sign.ensures)

pub returns-then-is_sign-2 : goal.returns-then-is_sign-2
returns-then-is_sign-2 c =
    let a = c.args in
    let s = a.s.now in
    let w = part a.a a.e s in
    word_silence a.a w (sym c.if-is_sign.false ∙ c.is_sign.ensures)
    (sym c.if-is_sign-2.true ∙ c.is_sign-2.ensures)

pub returns-then-is_sign-3 : goal.returns-then-is_sign-3
returns-then-is_sign-3 c =
    let a = c.args in
    let s = a.s.now in
    let w = part a.a a.e s in
    word_remover a.a w (sym c.if-is_sign.false
    ∙ c.is_sign.ensures)
    (sym c.if-is_sign-2.false ∙ c.is_sign-2.ensures)
    (sym c.if-is_sign-3.true ∙ c.is_sign-3.ensures)

pub returns-then-s-a-eq36 : goal.returns-then-s-a-eq36
returns-then-s-a-eq36 c =
    let a = c.args in
    let s = a.s.now in
    let w = part a.a a.e s in
    let v = part (a.a + 1) a.e s in
    c.reference_token.ensures
    ∙ word_reference a.a w (sym c.if-is_sign.false
    ∙ c.is_sign.ensures)
    (sym c.if-is_sign-2.false
    ∙ c.is_sign-2.ensures)
    (sym c.if-is_sign-3.false ∙ c.is_sign-3.ensures) v
    (part_cons s a.a a.e (omega arith) (omega arith) ∙ ap (λ b. b ∷ v) c.if-s-a-eq36.true)

pub returns : goal.returns
returns c =
    let a = c.args in
    let s = a.s.now in
    let w = part a.a a.e s in
    chord_no_letter a.a (get_or s a.a 0) (part (a.a + 1) a.e s) w (part_cons s a.a a.e (omega arith) (omega arith)) c.requires.2
    ∙ word_chord a.a w (sym c.if-is_sign.false
    ∙ c.is_sign.ensures)
    (sym c.if-is_sign-2.false
    ∙ c.is_sign-2.ensures)
    (sym c.if-is_sign-3.false ∙ c.is_sign-3.ensures) (get_or s a.a 0)
    (part (a.a + 1) a.e s) (part_cons s a.a a.e (omega arith) (omega arith)) c.if-s-a-eq36.false
