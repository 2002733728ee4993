-- Texts of whole characters: a stretch of one has at most three bytes more than four times its characters.
use Prim.Native.Nat.{ℕ, zero, suc, ◌+◌, ◌*◌, ◌≤◌}
use mathlib.Core.Path.{◌≡◌, refl, ap, ◌∙◌}
use mathlib.Core.List.{List, [], ◌∷◌, ◌++◌, head-eq_of_cons-eq, tail-eq_of_cons-eq}
use mathlib.Core.Bool.{true, false}
use native.Mathlib.Omega.{arith}
use lib.Dec.{leb}
use lib.ListN.{length}
use borrow.Author.Tests.{leb-true}
use Rattle.songcode.specs.Lists.{provided◌then◌else◌, every}
use Rattle.songcode.specs.Bytes.{placed}
use Rattle.songcode.specs.Answer.Characters.{Form, forms, is_tail, width_by, good_bytes, characters}
use Rattle.songcode.specs.Description.WrittenText.{Character}
use Rattle.songcode.proofs.ListLaws.{by_cases, true_is_not_false, every_all, all_member}
use Rattle.songcode.proofs.FormLaws.{first_is_no_tail}
use Rattle.songcode.proofs.WidthsAgree.{width_sound}
use Rattle.songcode.proofs.CharactersAgree.{good_none, good_some}

-- What the first byte of whole characters leaves: the bytes that still belong to its character are at most three, and it is a tail only inside one.
record Leaves (k b : ℕ) (bs : List ℕ) : Type 0 where
  more : ℕ
  few : more ≤ 3
  whole : good_bytes more bs ≡ length bs
  inside : is_tail b ≡ true → 1 + more ≤ k
  counted : 1 + more ≤ k + 4

forms_short : every (λ f. leb f.more 3) forms ≡ true
unfolding every forms
forms_short = refl

character_short : {c : List ℕ} (ch : Character c) → length ch.rest ≤ 3
character_short ch =
    let m = ch.as_many in
    let h =
    leb-true ch.form.more 3 (all_member (λ (f : Form). leb f.more 3) (every_all (λ (f : Form). leb f.more 3) forms forms_short) ch.listed) in
    omega arith

leaves_first : (b : ℕ) (bs : List ℕ) (n : ℕ) → width_by forms b bs ≡ n → good_bytes 0 (b ∷ bs) ≡ length (b ∷ bs) → Leaves 0 b bs
leaves_first b bs zero w e = let z = good_none b bs w in absurd (let y : ⊥ = omega arith in y)
leaves_first b bs (suc k) w e =
    let z = good_some b bs k w in
    let h = width_sound b bs k w in
    let ch = h.0 in
    let f = character_short ch in
    let l = ap (λ (w : List ℕ). length w) (tail-eq_of_cons-eq ch.spelled) in
    let n = h.1 in
    let no_tail : is_tail b ≡ false = ap is_tail (head-eq_of_cons-eq ch.spelled) ∙ first_is_no_tail ch in
    record { more = k; few = omega arith; whole = omega arith; inside = λ t. true_is_not_false t no_tail; counted = omega arith }

leaves : (k b : ℕ) (bs : List ℕ) → k ≤ 3 → good_bytes k (b ∷ bs) ≡ length (b ∷ bs) → Leaves k b bs
unfolding good_bytes
leaves zero b bs h e = leaves_first b bs (width_by forms b bs) refl e
leaves (suc k) b bs h e = record { more = k; few = omega arith; whole = omega arith; inside = λ t. omega arith; counted = omega arith }

-- Bytes in front of whole characters, of which some still belong to the character before.
front_short : (k : ℕ) (w ys : List ℕ) (a : ℕ) → k ≤ 3 → good_bytes k (w ++ ys) ≡ length (w ++ ys) → length w ≤ k + 4 * characters (placed a w)
unfolding placed characters provided◌then◌else◌
front_short k [] ys a h e = omega arith
front_short k (b ∷ w) ys a h e =
    let l = leaves k b (w ++ ys) h e in
    let i = front_short l.more w ys (suc a) l.few l.whole in
    let c = l.counted in
    by_cases (is_tail b)
    (λ t. let d = l.inside t in rw t (omega arith))
    (λ t. rw t (omega arith))

-- Behind any bytes there are whole characters, but for at most three bytes.
from_behind : (k : ℕ) (front bs : List ℕ) → k ≤ 3 → good_bytes k (front ++ bs) ≡ length (front ++ bs) → (j : ℕ) × (j ≤ 3) × (good_bytes j bs ≡ length bs)
from_behind k [] bs h e = (k, h, e)
from_behind k (b ∷ front) bs h e = let l = leaves k b (front ++ bs) h e in from_behind l.more front bs l.few l.whole

pub stretch_short : (front w rest : List ℕ) (a : ℕ) → good_bytes 0 (front ++ (w ++ rest)) ≡ length (front ++ (w ++ rest))
    → length w ≤ 3 + 4 * characters (placed a w)
stretch_short front w rest a g =
    let h = from_behind 0 front (w ++ rest) (omega arith) g in
    let few = h.1 in
    let i = front_short h.0 w rest a few h.2 in
    omega arith
