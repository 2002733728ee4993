-- The bits in front of the word decide: a chord, one of the nine signs by its number, or a number between the two, which is wrong.
use borrow.Author.Tests.{lt-ltb, le-ltb, eqb-true, eqb-false}
use lib.Dec.{eqb}
use Rattle.songcode.proofs.ListLaws.{by_cases}
use native.Mathlib.Omega.{arith}
use mathlib.Core.Path.{◌≡◌, refl, sym, ap, ◌∙◌}
use Prim.Native.Nat.{ℕ, ◌/◌, ◌^◌, ◌<◌, ◌≤◌}
use Rattle.songcode.specs.Lists.{provided◌then◌else◌}
use Rattle.grammar.specs.declared.kinds.Kind.{Kind}
use Rattle.grammar.specs.declared.kinds.Kind.TheVariants.{Sound, Remover, Reference, Semicolon, Colon, LineEnd, Opens, Closes}
use Rattle.grammar.specs.Kinds.{word_kind, sign_kind}
use Rattle.grammar.proofs.kinds.kind_of.Goals as goal

-- A sign known by its number.
told : (k : Kind) (n word : ℕ) {sign : ℕ} → sign ≡ word / 2 ^ 26 → sign ≡ n → k ≡ sign_kind n → k ≡ word_kind word
unfolding word_kind
told k n word e h s = s ∙ ap sign_kind (sym h ∙ e)

-- One of the last two signs.
sounds : (word : ℕ) {sign : ℕ} → sign ≡ word / 2 ^ 26 → 62 ≤ sign → sign ≤ 63 → Sound ≡ word_kind word
unfolding word_kind sign_kind provided◌then◌else◌
sounds word {sign} e l h =
    by_cases
    (eqb sign 62)
    (λ t. told Sound 62 word e (eqb-true sign 62 t) refl)
    (λ t. let n = eqb-false sign 62 t in told Sound 63 word e (omega arith) refl)

-- None of the signs: a number below them.
pub returns-in_default : goal.returns-in_default
unfolding word_kind sign_kind provided◌then◌else◌
returns-in_default c =
    let e = c.kind-sign.ensures in
    let below : c.kind-sign.result < 55 = omega (arith, e) in
    simp (← e, le-ltb _ _ c.if-sign-lt-CHORDS.false, lt-ltb _ _ below)

pub returns-then-sign-lt-CHORDS : goal.returns-then-sign-lt-CHORDS
unfolding word_kind sign_kind provided◌then◌else◌
returns-then-sign-lt-CHORDS c = simp (← c.kind-sign.ensures, lt-ltb _ _ c.if-sign-lt-CHORDS.true)

pub returns-in-55 : goal.returns-in-55
unfolding word_kind sign_kind provided◌then◌else◌
returns-in-55 c = told Reference 55 _ c.kind-sign.ensures c.in-55.is refl

pub returns-in-56 : goal.returns-in-56
unfolding word_kind sign_kind provided◌then◌else◌
returns-in-56 c = told Closes 56 _ c.kind-sign.ensures c.in-56.is refl

pub returns-in-57 : goal.returns-in-57
unfolding word_kind sign_kind provided◌then◌else◌
returns-in-57 c = told Opens 57 _ c.kind-sign.ensures c.in-57.is refl

pub returns-in-58 : goal.returns-in-58
unfolding word_kind sign_kind provided◌then◌else◌
returns-in-58 c = told LineEnd 58 _ c.kind-sign.ensures c.in-58.is refl

pub returns-in-59 : goal.returns-in-59
unfolding word_kind sign_kind provided◌then◌else◌
returns-in-59 c = told Colon 59 _ c.kind-sign.ensures c.in-59.is refl

pub returns-in-60 : goal.returns-in-60
unfolding word_kind sign_kind provided◌then◌else◌
returns-in-60 c = told Semicolon 60 _ c.kind-sign.ensures c.in-60.is refl

pub returns-in-61 : goal.returns-in-61
unfolding word_kind sign_kind provided◌then◌else◌
returns-in-61 c = told Remover 61 _ c.kind-sign.ensures c.in-61.is refl

pub returns-in-62 : goal.returns-in-62
returns-in-62 c =
    let high : c.kind-sign.result ≤ 63 = omega arith in
    sounds _ c.kind-sign.ensures (omega arith) high
