-- A word that begins with a letter is a chord, or wrong as one.
use Rattle.tokens.proofs.PlainBases.{base_in_part, chord_end, chord_base}
use Rattle.tokens.proofs.ReadLaws.{reads_chord}
use Rattle.tokens.proofs.RowLaws.{letter_alone}
use Rattle.tokens.proofs.WordLaws.{chord_bare}
use Rattle.tokens.proofs.PartLaws.{part_cons, part_none}
use Rattle.tokens.specs.Lexing.{plain_length}
use Rattle.text.specs.Spans.{part}
use borrow.Author.Tests.{not-true, ltb-false}
use lib.ListN.{get_or}
use native.Mathlib.Omega.{arith}
use mathlib.Core.Path.{◌≡◌, refl, sym, ap, ◌∙◌}
use mathlib.Core.List.{[], ◌∷◌}
use Prim.Native.Nat.{◌+◌, ◌-◌, ◌≤◌}
use Rattle.tokens.proofs.lexing.chord_at.Goals as goal
use Rattle.tokens.proofs.lexing.chord_at.Goals.{After-struct_known-1}

-- The letter alone.
pub returns-then-not-plain_at : goal.returns-then-not-plain_at
returns-then-not-plain_at c =
    let s = c.args.s.now in
    let a = c.args.a in
    let stop = c.args.stop in
    let b = get_or s a 0 in
    let other = sym c.plain_at.ensures ∙ not-true _ c.if-not-plain_at.true-raw in
    let none = ltb-false 0 (plain_length (part (a + 1) stop s)) other in
    let word : part a (a + 1) s ≡ b ∷ [] = part_cons s a (a + 1) (omega arith) (omega arith) ∙ ap (λ l. b ∷ l) (part_none s (a + 1) (a + 1) (omega arith)) in
    let bare = chord_bare a (b ∷ []) _ (letter_alone b c.requires.3) (λ z. omega arith) refl in
    (reads_chord s a stop _ (a + 1) (omega arith) (omega arith) c.requires.3 (omega arith) (rw word (c.letter_token.ensures ∙ bare)))

pub base_of-base-requires : goal.base_of-base-requires
base_of-base-requires c =
    (c.requires.3, ap (λ w. get_or w 0 0) (part_cons c.args.s.now c.args.a c.args.stop (omega arith) (omega arith)))

-- The base lies in the text.
inside : (c : After-struct_known-1)
    → let i = c.args in
    c.base_of-base.result.length ≤ i.stop - i.a
inside c =
    let i = c.args in
    base_in_part i.s.now i.a i.stop (omega arith) (omega arith) c.base_of-base.result c.base_of-base.ensures

pub overflow_add-a-2 : goal.overflow_add-a-2
overflow_add-a-2 c = omega (arith, inside c)

pub plain_end-e-requires : goal.plain_end-e-requires
plain_end-e-requires c = (omega (arith, inside c), omega arith)

pub chord_token-requires : goal.chord_token-requires
chord_token-requires c =
    let i = c.args in
    let b = c.base_of-base in
    let e = c.plain_end-e.ensures in (
      omega arith,
      omega arith,
      omega arith,
      rw e.0 (chord_base i.s.now i.a i.stop (omega arith) (omega arith) b.result b.ensures _ refl),
    )

pub returns : goal.returns
returns c =
    let i = c.args in
    let s = i.s.now in
    let b = c.base_of-base in
    let f = chord_end s i.a i.stop (omega arith) (omega arith) b.result b.ensures c.requires.3 _ refl in
    let e = c.plain_end-e.result in
    let g = c.plain_end-e.ensures in
    (reads_chord s i.a i.stop _ e (omega arith) (omega arith) c.requires.3 (g.0 ∙ f.0) c.chord_token.ensures)
