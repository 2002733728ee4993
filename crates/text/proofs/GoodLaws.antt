-- Good bytes, character by character, at a place of a text: what the loop of good_bytes cites.
use Prim.Native.Nat.{ℕ, zero, suc, ◌+◌, ◌-◌, ◌<◌, ◌≤◌}
use mathlib.Core.Path.{◌≡◌, refl, sym, ap, ◌∙◌}
use mathlib.Core.List.{List, [], ◌∷◌}
use mathlib.Core.Bool.{true, cond}
use native.Mathlib.Omega.{arith}
use native.Mathlib.Nat.{zero-add}
use borrow.Author.Tests.{leb-true, leb-false}
use lib.Dec.{leb}
use lib.ListN.{length, get_or, take, drop, drop_of_length-le, length-take, length-drop}
use lib.Seq.{drop-cons, drop-drop}
use Rattle.std.proofs.Common.{Some, None}
use Rattle.std.specs.List.{count_by}
use Rattle.std.proofs.lemmas.List.Sums.{count_by-le-length, sum_by-cons}
use Rattle.std.proofs.lemmas.Option.{none-some, same_Some}
use Rattle.songcode.specs.Lists.{provided◌then◌else◌}
use Rattle.songcode.specs.Answer.Characters.{Form, forms, within, is_tail, tails, tails_follow, width_by, good_bytes}
use Rattle.songcode.proofs.CharactersAgree.{good_some, good_none}
use Rattle.songcode.proofs.ListLaws.{by_cases}
use Rattle.text.specs.Leads.{whole, width_at, ascii_length}
use Rattle.text.proofs.LeadLaws.{width_past}
use Rattle.text.proofs.TestLaws.{false_not_true}

-- What follows a first byte stands in the text.
tails_fit : (n : ℕ) (bs : List ℕ) → tails n bs ≡ true → n ≤ length bs
unfolding tails
tails_fit zero bs h = omega arith
tails_fit (suc n) [] h = absurd (false_not_true h)
tails_fit (suc n) (b ∷ bs) h =
    by_cases (is_tail b) (λ e. let g : tails n bs ≡ true = rw e at h in
    let k = tails_fit n bs g in omega arith) (λ e. absurd (false_not_true (rw e at h)))

follows_fit : (f : Form) (n : ℕ) (bs : List ℕ) → tails_follow f n bs ≡ true → n ≤ length bs
unfolding tails_follow
follows_fit f zero bs h = omega arith
follows_fit f (suc n) [] h = absurd (false_not_true h)
follows_fit f (suc n) (b ∷ bs) h =
    by_cases
    (within f.second_low f.second_high b)
    (λ e. let g : tails n bs ≡ true = rw e at h in
    let k = tails_fit n bs g in omega arith)
    (λ e. absurd (false_not_true (rw e at h)))

by_fits : (fs : List Form) (b : ℕ) (bs : List ℕ) → width_by fs b bs ≤ suc (length bs)
unfolding width_by provided◌then◌else◌
by_fits [] b bs = omega arith
by_fits (f ∷ fs) b bs =
    by_cases
    (within f.first_low f.first_high b)
    (λ e. by_cases
    (tails_follow f f.more bs)
    (λ g. let k = follows_fit f f.more bs g in rw (e, g) (omega arith))
    (λ g. rw (e, g) (omega arith)))
    (λ e. rw e (by_fits fs b bs))

-- A width, or none.
none_is : (n : ℕ) → None ≡ whole n → n ≡ 0
unfolding whole
none_is zero e = refl
none_is (suc n) e = absurd (none-some _ e)

some_is : (n : ℕ) (w : ℕ) → Some w ≡ whole n → (w ≡ n) × (0 < w)
unfolding whole
some_is zero w e = absurd (none-some _ (sym e))
some_is (suc n) w e = let k = same_Some w (suc n) e in (k, omega arith)

-- The bytes that belong to the character before are passed over.
good_inside : (k : ℕ) (bs : List ℕ) → k ≤ length bs → good_bytes k bs ≡ k + good_bytes 0 (drop k bs)
unfolding good_bytes
good_inside zero bs h = sym (zero-add _)
good_inside (suc k) [] h = absurd (omega arith)
good_inside (suc k) (b ∷ bs) h = omega (arith, good_inside k bs (omega arith))

pub good_over : (s : List ℕ) (i : ℕ) → length s ≤ i → good_bytes 0 (drop i s) ≡ 0
unfolding good_bytes
good_over s i h = rw (drop_of_length-le s h)

-- Characters of one byte, so many at once.
abbrev singles : List ℕ → ℕ
singles bs = count_by (within 0x01 0x7F) bs

pub ascii_run : (n : ℕ) (bs : List ℕ) → n ≤ length bs → count_by (within 0x01 0x7F) (take n bs) ≡ n → ascii_length bs ≡ n + ascii_length (drop n bs)
unfolding ascii_length provided◌then◌else◌
ascii_run zero bs h e = omega arith
ascii_run (suc n) [] h e = absurd (omega arith)
ascii_run (suc n) (b ∷ bs) h e =
    let one : cond (within 0x01 0x7F b) 1 0 + singles (take n bs) ≡ suc n = sym (sum_by-cons (λ x. cond (within 0x01 0x7F x) 1 0) b (take n bs)) ∙ e in
    by_cases
    (within 0x01 0x7F b)
    (λ t. let k : 1 + singles (take n bs) ≡ suc n = rw t at one in
    rw t (omega (arith, ascii_run n bs (omega arith) (omega arith))))
    (λ t. let k : 0 + singles (take n bs) ≡ suc n = rw t at one in
    absurd (omega (arith, count_by-le-length (within 0x01 0x7F) (take n bs), length-take n bs)))

-- All of them are good.
ascii_wide : (b : ℕ) (bs : List ℕ) → within 0x01 0x7F b ≡ true → width_by forms b bs ≡ 1
unfolding width_by forms tails_follow provided◌then◌else◌
ascii_wide b bs e = rw e

pub good_ascii : (t : List ℕ) → good_bytes 0 t ≡ ascii_length t + good_bytes 0 (drop (ascii_length t) t)
unfolding ascii_length provided◌then◌else◌
good_ascii [] = omega arith
good_ascii (b ∷ t) =
    by_cases
    (within 0x01 0x7F b)
    (λ e. let h = good_ascii t in rw e (good_some b t 0 (ascii_wide b t e) ∙ omega arith))
    (λ e. rw e (omega arith))

pub good_behind : (s : List ℕ) (i k : ℕ) → k ≡ ascii_length (drop i s) → good_bytes 0 (drop i s) ≡ k + good_bytes 0 (drop (i + k) s)
good_behind s i k e = rw (← (drop-drop k i s), e) (good_ascii (drop i s))

pub good_stop : (s : List ℕ) (i : ℕ) → None ≡ width_at s i → good_bytes 0 (drop i s) ≡ 0
good_stop s i e =
    by_cases
    (leb (length s) i)
    (λ t. good_over s i (leb-true (length s) i t))
    (λ t. let h = leb-false (length s) i t in rw (drop-cons s i 0 h) (good_none (get_or s i 0) (drop (suc i) s) (none_is _ e)))

-- A whole character is good, and stands within the text.
module _ (s : List ℕ) (i w : ℕ) (e : Some w ≡ width_at s i) where
  width_is : (w ≡ width_by forms (get_or s i 0) (drop (suc i) s)) × (0 < w)
  width_is = some_is _ w e

  pub width_some : 0 < w
  width_some = width_is.1

  width_inside : i < length s
  width_inside =
      by_cases (leb (length s) i) (λ t. absurd (none-some w (width_past s i (leb-true (length s) i t) ∙ sym e))) (λ t. leb-false (length s) i t)

  pub width_fits : i + w ≤ length s
  width_fits =
      let k = by_fits forms (get_or s i 0) (drop (suc i) s) in
      omega (arith, width_inside, width_is.0, length-drop (suc i) s)

  pub good_more : good_bytes 0 (drop i s) ≡ w + good_bytes 0 (drop (i + w) s)
  good_more =
      let k : w ≡ suc (w - 1) = omega (arith, width_is.1) in
      let here = good_some (get_or s i 0) (drop (suc i) s) (w - 1) (sym width_is.0 ∙ k) in
      let inside = good_inside (w - 1) (drop (suc i) s) (omega (arith, width_fits, length-drop (suc i) s)) in
      let behind : suc i + (w - 1) ≡ i + w = omega arith in
      let over = drop-drop (w - 1) (suc i) s ∙ ap (λ (n : ℕ). drop n s) behind in
      ap (good_bytes 0) (drop-cons s i 0 width_inside) ∙ here ∙ ap suc (inside ∙ ap (λ (r : List ℕ). w - 1 + good_bytes 0 r) over) ∙ omega arith
