-- The tests of lines, as the code makes them.
use Prim.Native.Nat.{ℕ}
use mathlib.Core.Path.{◌≡◌, refl, sym, ◌∙◌}
use mathlib.Core.List.{List, [], ◌∷◌}
use mathlib.Core.Bool.{Bool, true, false, not, ◌&&◌}
use native.Mathlib.Omega.{arith}
use lib.Dec.{eqb}
use borrow.Author.Tests.{eqb-true}
use Rattle.songcode.specs.Lists.{provided◌then◌else◌, is_empty}
use Rattle.songcode.specs.Bytes.{Byte, is_byte, values, ascii, same, is}
use Rattle.songcode.specs.Answer.Sections.{kind_of}
use Rattle.songcode.specs.Answer.Sections as sections
use Rattle.songcode.proofs.ListLaws.{by_cases, true_is_not_false}
use Rattle.settings.specs.declared.kinds.Kind.{Kind}
use Rattle.settings.specs.declared.kinds.Kind.TheVariants as kind
use Rattle.settings.specs.Kinds.{kind_is}
use Rattle.sections.specs.declared.runs.Test.{Test}
use Rattle.sections.specs.declared.runs.Test.TheVariants.{Full, Body, Early, Pattern}
use Rattle.sections.specs.Runs.{in_body, is_pattern_kind, is_pattern_text, passes, opens, parted}

-- A kind that was read.
pub pattern_kind : (k : sections.Kind) {r : Kind} → r ≡ kind_is k → r ≡ kind.Pattern → k ≡ sections.pattern_line
unfolding kind_is
pattern_kind sections.key_line e h = let z : ◌≡◌ {A = ℕ} 0 1 = cc in absurd (omega arith)
pattern_kind sections.modifier_line e h = let z : ◌≡◌ {A = ℕ} 0 1 = cc in absurd (omega arith)
pattern_kind sections.pattern_line e h = refl

pub pattern_read : (k : sections.Kind) {r : Kind} → r ≡ kind_is k → r ≡ kind.Pattern → true ≡ is_pattern_kind k
unfolding is_pattern_kind
pattern_read k e h = rw (pattern_kind k e h)

pub key_read : (k : sections.Kind) {r : Kind} → r ≡ kind_is k → r ≡ kind.Key → k ≡ sections.key_line
unfolding kind_is
key_read sections.key_line e h = refl
key_read sections.modifier_line e h = let z : ◌≡◌ {A = ℕ} 0 1 = cc in absurd (omega arith)
key_read sections.pattern_line e h = let z : ◌≡◌ {A = ℕ} 0 1 = cc in absurd (omega arith)

pub modifier_read : (k : sections.Kind) {r : Kind} → r ≡ kind_is k → r ≡ kind.Modifier → k ≡ sections.modifier_line
unfolding kind_is
modifier_read sections.key_line e h = let z : ◌≡◌ {A = ℕ} 0 1 = cc in absurd (omega arith)
modifier_read sections.modifier_line e h = refl
modifier_read sections.pattern_line e h = let z : ◌≡◌ {A = ℕ} 0 1 = cc in absurd (omega arith)

pub other_read : (k : sections.Kind) {r : Kind} → r ≡ kind_is k → (r ≡ kind.Pattern → ⊥) → false ≡ is_pattern_kind k
unfolding kind_is is_pattern_kind
other_read sections.key_line e n = refl
other_read sections.modifier_line e n = refl
other_read sections.pattern_line e n = absurd (n e)

-- The test at hand.
pub opens_by : {t : Test} (v : Test) (bs : List Byte) {r : Bool} → t ≡ v → r ≡ opens v bs → r ≡ opens t bs
opens_by v bs e h = rw e h

pub parted_by : {t : Test} (v : Test) (bs : List Byte) {r : Bool} → t ≡ v → r ≡ parted v bs → r ≡ parted t bs
parted_by v bs e h = rw e h

-- Two tests behind each other.
module _ (bs : List Byte) {f : Bool} (e : f ≡ not (is_empty bs)) where
  pub pattern_on : {p : Bool} → f ≡ true → p ≡ is_pattern_text bs → p ≡ opens Pattern bs
  unfolding opens
  pattern_on h i = let z : not (is_empty bs) ≡ true = sym e ∙ h in i ∙ rw z refl

  pub pattern_off : f ≡ false → f ≡ opens Pattern bs
  unfolding opens
  pattern_off h = let z : not (is_empty bs) ≡ false = sym e ∙ h in h ∙ rw z refl

-- A line that is none of a pattern is neither blank nor a `--`.
no_pattern : (bs : List Byte) → is_pattern_text bs ≡ false → in_body bs ≡ true
unfolding is_pattern_text is_pattern_kind kind_of in_body is_empty is same ascii values is_byte provided◌then◌else◌
no_pattern [] e = true_is_not_false refl e
no_pattern (b ∷ []) e = by_cases (eqb 45 b.value) (λ t. rw t) (λ t. rw t)
no_pattern (b ∷ c ∷ bs) e =
    by_cases
    (eqb 45 b.value)
    (λ t. let v : b.value ≡ 45 = sym (eqb-true 45 b.value t) in true_is_not_false refl (rw v at e))
    (λ t. rw t)

and_false : (p : Bool) → (false && p) ≡ (p && false)
and_false true = refl
and_false false = refl

and_true : (p : Bool) → (true && p) ≡ (p && true)
and_true true = refl
and_true false = refl

passes_split : (t : Test) (bs : List Byte) → passes t bs ≡ (opens t bs && not (parted t bs))
unfolding passes opens parted in_body
passes_split Full bs = by_cases (is_empty bs) (λ e. rw e) (λ e. rw e)
passes_split Body bs = refl
passes_split Early bs =
    by_cases
    (is_pattern_text bs)
    (λ e. by_cases (not (is_empty bs) && not (is "--" bs)) (λ f. rw (e, f)) (λ f. rw (e, f)))
    (λ e. let f : not (is_empty bs) && not (is "--" bs) ≡ true = no_pattern bs e in rw (e, f))
passes_split Pattern bs =
    by_cases (is_empty bs) (λ e. rw e)
    (λ e. by_cases (is "--" bs) (λ f. rw (e, f) (and_false (is_pattern_text bs))) (λ f. rw (e, f) (and_true (is_pattern_text bs))))

module _ (t : Test) (bs : List Byte) where
  pub shut_fails : opens t bs ≡ false → passes t bs ≡ false
  shut_fails e = passes_split t bs ∙ rw e

  module _ (e : opens t bs ≡ true) where
    pub parted_fails : parted t bs ≡ true → passes t bs ≡ false
    parted_fails f = passes_split t bs ∙ rw (e, f)

    pub whole_passes : parted t bs ≡ false → passes t bs ≡ true
    whole_passes f = passes_split t bs ∙ rw (e, f)
