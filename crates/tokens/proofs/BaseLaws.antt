-- The longest base of a word: what is known of it, and a word that is a base exactly.
use Prim.Native.Nat.{ℕ, zero, suc, ◌<◌, ◌≤◌}
use mathlib.Core.Path.{◌≡◌, refl, sym, ap, ◌∙◌}
use mathlib.Core.List.{List, [], ◌∷◌, ◌++◌, append-nil}
use mathlib.Core.Bool.{Bool, true, false, ◌&&◌}
use mathlib.Core.Option.{Option, none, some}
use native.Mathlib.Omega.{arith}
use native.Mathlib.Nat.{zero-add}
use borrow.Author.Tests.{leb-true, eqb-true, eq-eqb}
use lib.Dec.{leb, eqb}
use lib.ListN.{length, get_elem?, length-append}
use Rattle.songcode.specs.Lists.{every}
use Rattle.songcode.specs.Bytes.{placed, ascii, begins}
use Rattle.songcode.specs.Answer.Chords.{bases, is_taken, longest_from, is_base}
use Rattle.songcode.specs.Answer.Chords as songcode
use Rattle.songcode.proofs.ByteLaws.{values_placed}
use Rattle.songcode.proofs.ChordsAgree.{base_exact}
use Rattle.songcode.proofs.ListLaws.{by_cases, both_pass, true_is_not_false}
use Rattle.songcode.proofs.LongestBase.{longest_holds, longest_least}
use Rattle.songcode.proofs.PatternLaws.{every_at, none_some}
use Rattle.songcode.proofs.Spellings.{begins_append, front_once}
use Rattle.songcode.proofs.TakenBases.{taken_sound, taken_complete}
use Rattle.tokens.specs.Bases.{base_of}

pub begins_length : (s w : List ℕ) → begins s w ≡ true → length s ≤ length w
unfolding begins
begins_length [] w e = omega arith
begins_length (x ∷ s) [] e = true_is_not_false e refl
begins_length (x ∷ s) (b ∷ w) e = let h = begins_length s w (both_pass (eqb x b) (begins s w) e).1 in omega arith

begins_whole : (w : List ℕ) → begins w w ≡ true
begins_whole w = rw append-nil at (begins_append w [])

-- Nothing follows the `m` of a word that is a base, so it is taken.
taken_whole : (w : List ℕ) → is_taken w w ≡ true
unfolding ascii
taken_whole w =
    taken_complete w w (begins_whole w)
    (λ p.
    let l = ap length p.follows ∙ length-append w (ascii "aj" ++ p.rest) in
    absurd (omega arith))

getElem?-lt : {A : Type 0} (xs : List A) (n : ℕ) {x : A} → get_elem? xs n ≡ some x → n < length xs
getElem?-lt [] n e = none_some refl e
getElem?-lt (y ∷ xs) zero e = omega arith
getElem?-lt (y ∷ xs) (suc n) e = let h = getElem?-lt xs n e in omega arith

-- A base that fits a word: one of the 34, spelled by one to three bytes at the word's front.
pub record Fits (w : List ℕ) (b : songcode.Base) : Type 0 where
  pub spelling : List ℕ
  pub listed : get_elem? bases b.number ≡ some spelling
  pub front : begins spelling w ≡ true
  pub spelled : b.length ≡ length spelling
  pub number : b.number ≤ 33
  pub some_byte : 1 ≤ b.length
  pub three_bytes : b.length ≤ 3
  pub inside : b.length ≤ length w

short : List ℕ → Bool
short s = leb 1 (length s) && leb (length s) 3

fits : (w : List ℕ) (n : ℕ) (s : List ℕ) → get_elem? bases n ≡ some s → is_taken s w ≡ true → Fits w (record { number = n; length = length s })
unfolding bases every short
fits w n s i t =
    let h = both_pass (leb 1 (length s)) (leb (length s) 3) (every_at short bases n refl i) in
    let l = getElem?-lt bases n i in
    let f = (taken_sound s w t).0 in
    record {
      spelling = s;
      listed = i;
      front = f;
      spelled = refl;
      number = omega arith;
      some_byte = leb-true 1 (length s) h.0;
      three_bytes = leb-true (length s) 3 h.1;
      inside = begins_length s w f;
    }

pub longest_fits : (w : List ℕ) (b : songcode.Base) → longest_from is_taken 0 bases w none ≡ some b → Fits w b
longest_fits w b e =
    longest_holds is_taken w (Fits w) bases 0 none (λ a z. none_some refl z) (λ k s i t. rw (zero-add k) (fits w k s i t)) b e

-- A word is a base exactly where the longest base is as long as the word.
whole_base : (w : List ℕ) (b : songcode.Base) → longest_from is_taken 0 bases w none ≡ some b → b.length ≡ length w → is_base (placed 0 w) ≡ true
whole_base w b e l =
    let f = longest_fits w b e in
    let s : f.spelling ≡ w = front_once f.spelling w w f.front (begins_whole w) (sym f.spelled ∙ l) in
    (base_exact (placed 0 w)).1 (b.number, rw values_placed (f.listed ∙ ap some s))

base_whole : (w : List ℕ) → is_base (placed 0 w) ≡ true → (b : songcode.Base) × (longest_from is_taken 0 bases w none ≡ some b) × (b.length ≡ length w)
base_whole w h =
    let n = (base_exact (placed 0 w)).0 h in
    let i : get_elem? bases n.0 ≡ some w = rw values_placed at n.1 in
    let l = longest_least is_taken w bases 0 none n.0 w i (taken_whole w) in
    let f = longest_fits w l.0 l.1 in
    (l.0, l.1, omega arith)

pub base_exactly : (w : List ℕ) → ((base_of (longest_from is_taken 0 bases w none)).length ≡ 0 → ⊥)
    → eqb (base_of (longest_from is_taken 0 bases w none)).length (length w) ≡ is_base (placed 0 w)
unfolding base_of
base_exactly w h = go (longest_from is_taken 0 bases w none) refl h
  where
    go : (o : Option songcode.Base) → longest_from is_taken 0 bases w none ≡ o → ((base_of o).length ≡ 0 → ⊥)
        → eqb (base_of o).length (length w) ≡ is_base (placed 0 w)
    go none e h = absurd (h refl)
    go (some b) e h =
        by_cases
        (is_base (placed 0 w))
        (λ t. let g = base_whole w t in
        let z : b ≡ g.0 = cc in rw (t, z) (eq-eqb g.0.length (length w) g.2))
        (λ t. rw t (by_cases (eqb b.length (length w)) (λ y. true_is_not_false (whole_base w b e (eqb-true b.length (length w) y)) t) (λ y. y)))

pub base_none : (w : List ℕ) → (base_of (longest_from is_taken 0 bases w none)).length ≡ 0 → false ≡ is_base (placed 0 w)
unfolding base_of
base_none w h =
    by_cases
    (is_base (placed 0 w))
    (λ t.
    let g = base_whole w t in
    let f = longest_fits w g.0 g.1 in
    let l : g.0.length ≡ 0 = rw g.1 at h in
    absurd (omega arith))
    (λ t. sym t)
