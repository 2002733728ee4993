-- Whole characters cut before a byte that is no tail, or at an ASCII byte, are whole characters on both sides.
use Prim.Native.Nat.{ℕ, ◌<◌}
use mathlib.Core.Path.{◌≡◌, refl, ap, sym, subst, ◌∙◌}
use mathlib.Core.List.{List, [], ◌∷◌, ◌++◌, append_assoc, tail-eq_of_cons-eq}
use mathlib.Core.Bool.{Bool, true, false, ◌||◌}
use native.Mathlib.Omega.{arith}
use lib.Dec.{ltb, eqb}
use lib.ListN.{length}
use borrow.Author.Tests.{ltb-true, eqb-true}
use Rattle.songcode.specs.Lists.{every}
use Rattle.songcode.specs.Answer.Characters.{Form, forms, is_tail}
use Rattle.songcode.specs.Description.WrittenText.{All, Character, Characters, no_character, a_character}
use Rattle.songcode.proofs.ListLaws.{by_cases, true_is_not_false, nil_is_not_cons, append_is_nil, append_cases, append_all, every_all, all_member}
use Rattle.songcode.proofs.FormLaws.{within_low, beneath, rest_are_tails}

pub characters_append : {a b : List ℕ} → Characters a → Characters b → Characters (a ++ b)
characters_append no_character k = k
characters_append {b} (a_character {c} {bs} ch e h) k = a_character ch (ap (λ w. w ++ b) e ∙ append_assoc c bs b) (characters_append h k)

-- A byte that is no tail begins its character.
begins_first : {c : List ℕ} (ch : Character c) (y : ℕ) (xs : List ℕ) (x : ℕ) (m : List ℕ) → is_tail x ≡ false → c ≡ (y ∷ xs) ++ (x ∷ m) → ⊥
unfolding All
begins_first ch y xs x m t e =
    let r : ch.rest ≡ xs ++ (x ∷ m) = tail-eq_of_cons-eq (sym ch.spelled ∙ e) in
    true_is_not_false (append_all is_tail xs (x ∷ m) (subst (λ w. All is_tail w) r (rest_are_tails ch))).1.0 t

pub characters_before : (x : ℕ) (ys xs zs : List ℕ) → is_tail x ≡ false → Characters zs → zs ≡ xs ++ (x ∷ ys) → Characters xs × Characters (x ∷ ys)
characters_before x ys xs zs t no_character e = nil_is_not_cons (sym (append_is_nil xs (x ∷ ys) (sym e)).1)
characters_before x ys xs zs t (a_character {c} {bs} ch z h) e =
    append_cases c bs xs (x ∷ ys) (sym z ∙ e)
    (λ m p q. let r = characters_before x ys m bs t h q in (a_character ch p r.0, r.1))
    (λ y m p q. inside xs y m p q)
  where
    inside : (xs : List ℕ) (y : ℕ) (m : List ℕ) → c ≡ xs ++ (y ∷ m) → x ∷ ys ≡ (y ∷ m) ++ bs → Characters xs × Characters (x ∷ ys)
    inside [] y m p q = (no_character, a_character ch (q ∙ ap (λ w. w ++ bs) (sym p)) h)
    inside (a ∷ xs) y m p q = let s : y ≡ x = cc in absurd (begins_first ch a xs y m (rw s t) p)

-- An ASCII byte is a character.
unfoldable lone : Form → Bool
lone f = ltb 0x7F f.first_low || eqb f.more 0

forms_lone : every lone forms ≡ true
unfolding forms lone every
forms_lone = refl

ascii_alone : {c : List ℕ} (ch : Character c) → ch.first < 0x80 → length ch.rest ≡ 0
unfolding lone
ascii_alone ch h =
    let a = all_member lone (every_all lone forms forms_lone) ch.listed in
    let low = within_low ch.form.first_low ch.form.first_high ch.first ch.begins in
    by_cases (ltb 0x7F ch.form.first_low)
    (λ e. absurd (let k = ltb-true 0x7F ch.form.first_low e in omega arith))
    (λ e. ch.as_many ∙ eqb-true ch.form.more 0 (rw e at a))

nil_of : {A : Type 0} (xs : List A) → length xs ≡ 0 → xs ≡ []
nil_of [] h = refl
nil_of (x ∷ xs) h = absurd (omega arith)

pub characters_behind : (x : ℕ) (ys zs : List ℕ) → x < 0x80 → Characters zs → zs ≡ x ∷ ys → Characters ys
characters_behind x ys zs a no_character e = nil_is_not_cons e
characters_behind x ys zs a (a_character {c} {bs} ch z h) e =
    let s : ch.first ∷ (ch.rest ++ bs) ≡ x ∷ ys = ap (λ w. w ++ bs) (sym ch.spelled) ∙ sym z ∙ e in
    let f : ch.first ≡ x = cc in
    let r = nil_of ch.rest (ascii_alone ch (rw f a)) in
    let t : ch.rest ++ bs ≡ ys = tail-eq_of_cons-eq s in
    subst (λ w. Characters w) (ap (λ w. w ++ bs) (sym r) ∙ t) h

pub ascii_no_tail : (x : ℕ) → x < 0x80 → is_tail x ≡ false
unfolding is_tail
ascii_no_tail x h = beneath 0x80 0xBF x h

-- Cut at an ASCII byte.
pub characters_at : (x : ℕ) (xs ys : List ℕ) → x < 0x80 → Characters (xs ++ (x ∷ ys)) → Characters xs × Characters ys
characters_at x xs ys h k =
    let p = characters_before x ys xs (xs ++ (x ∷ ys)) (ascii_no_tail x h) k refl in
    (p.0, characters_behind x ys (x ∷ ys) h p.1 refl)
