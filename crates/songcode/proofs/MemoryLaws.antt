-- What memory holds after a write: the library's `sets`, and its laws. `sets held n new` is what `held` becomes when the words `new` are stored in it one
-- after another from the place n on: before them and behind them it keeps what it held, and past its end nothing is stored.
use Prim.Native.Nat.{ℕ, zero, suc, ◌+◌, ◌-◌, ◌<◌, ◌≤◌}
use mathlib.Core.Path.{◌≡◌, refl, sym, ap, ◌∙◌}
use mathlib.Core.List.{List, [], ◌∷◌, ◌++◌, append_assoc, append-nil}
use native.Mathlib.Omega.{arith}
use native.Mathlib.Numerals.{add-one}
use native.Mathlib.Nat.{zero-add}
use borrow.Rule.Slice.PartMut.{put_mid}
use lib.ListN.{length, take, drop, set, get_or, length-append, length-set, length-take, length-drop, take-append-drop, drop_of_length-le}
use lib.Seq.{sets, sets-eq, length-sets, set_out, set_comm, get_or-set_same, get_or-set_other, get_or-drop, take-set-le, drop-set-lt, drop-set-add}
use lib.Seq.{take_all, drop_at, drop-drop, take-append_seam, length-take-le}
use Rattle.songcode.proofs.ListLaws.{drop_take}

-- Words behind words that were stored.
pub sets_append : (held : List ℕ) (n : ℕ) (xs ys : List ℕ) → sets held n (xs ++ ys) ≡ sets (sets held n xs) (n + length xs) ys
sets_append held n [] ys = let e : n + 0 ≡ n = omega arith in rw e
sets_append held n (x ∷ xs) ys = let e : n + suc (length xs) ≡ suc n + length xs = omega arith in rw e (sets_append (set held n x) (suc n) xs ys)

-- The same where the place behind them is known.
pub sets_sets : (n k : ℕ) (done new held : List ℕ) → k ≡ n + length done → sets (sets held n done) k new ≡ sets held n (done ++ new)
sets_sets n k done new held e = rw e (sym (sets_append held n done new))

-- One word more.
pub sets_next : (n fill v : ℕ) (words held done : List ℕ) → words ≡ sets held n done → fill ≡ n + length done
    → (set words fill v ≡ sets held n (done ++ (v ∷ []))) × (fill + 1 ≡ n + length (done ++ (v ∷ [])))
sets_next n fill v words held done w f = (rw w (sets_sets n fill done (v ∷ []) held f), simp length-append (omega arith))

-- Two words alone.
pub sets_two : (n v w : ℕ) (held : List ℕ) → set (set held n v) (n + 1) w ≡ sets held n (v ∷ w ∷ [])
sets_two n v w held = rw (add-one n)

-- Nothing is stored past the end.
pub sets_out : (held new : List ℕ) (n : ℕ) → length held ≤ n → sets held n new ≡ held
sets_out held [] n h = refl
sets_out held (v ∷ new) n h = rw (set_out held n v h) (sets_out held new (suc n) (omega arith))

-- A word put in front of words that were stored.
set_sets : (n k v : ℕ) (ys held : List ℕ) → n < k → set (sets held k ys) n v ≡ sets (set held n v) k ys
set_sets n k v [] held h = refl
set_sets n k v (y ∷ ys) held h =
    let apart : k ≡ n → ⊥ = λ e. omega arith in
    set_sets n (suc k) v ys (set held k y) (omega arith) ∙ ap (λ (l : List ℕ). sets l (suc k) ys) (set_comm held k n y v apart)

pub sets_front : (n v : ℕ) (ys held : List ℕ) → set (sets held (n + 1) ys) n v ≡ sets held n (v ∷ ys)
sets_front n v ys held = rw (add-one n) (set_sets n (suc n) v ys held (omega arith))

-- What stands before the new words stays.
pub sets_before : (k n : ℕ) (new held : List ℕ) → k ≤ n → take k (sets held n new) ≡ take k held
sets_before k n [] held h = refl
sets_before k n (v ∷ new) held h = sets_before k (suc n) new (set held n v) (omega arith) ∙ take-set-le k held n v h

word_before : (n : ℕ) (new held : List ℕ) (i : ℕ) → i < n → get_or (sets held n new) i 0 ≡ get_or held i 0
word_before n [] held i h = refl
word_before n (v ∷ new) held i h =
    let apart : i ≡ n → ⊥ = λ e. omega arith in
    word_before (suc n) new (set held n v) i (omega arith) ∙ get_or-set_other held n i v 0 apart

-- Each of the new words stands at its place.
pub sets_word : (n : ℕ) (new held : List ℕ) (i : ℕ) → n + i < length held → i < length new → get_or (sets held n new) (n + i) 0 ≡ get_or new i 0
sets_word n [] held i h k = let z : ⊥ = omega arith in absurd z
sets_word n (v ∷ new) held zero h k =
    let e : n + 0 ≡ n = omega arith in
    rw e (word_before (suc n) new (set held n v) n (omega arith) ∙ get_or-set_same held n v 0 (omega arith))
sets_word n (v ∷ new) held (suc i) h k =
    let e : n + suc i ≡ suc n + i = omega arith in
    let l = length-set held n v in
    rw e (sets_word (suc n) new (set held n v) i (omega arith) (omega arith))

-- What stands behind the new words stays.
pub sets_behind : (n : ℕ) (new held : List ℕ) (end : ℕ) → n + length new ≤ end → drop end (sets held n new) ≡ drop end held
sets_behind n [] held end h = refl
sets_behind n (v ∷ new) held end h = sets_behind (suc n) new (set held n v) end (omega arith) ∙ drop-set-lt end held n v (omega arith)

-- Where there is room, the new words stand one behind the other.
pub sets_there : (n : ℕ) (new held : List ℕ) → n + length new ≤ length held → take (length new) (drop n (sets held n new)) ≡ new
sets_there n new held h =
    let rest = drop (n + length new) held in
    let e : sets held n new ≡ take n held ++ (new ++ rest) = sets-eq new held n h ∙ append_assoc (take n held) new rest in
    rw (e, drop_at (take n held) (new ++ rest) n (length-take-le n held (omega arith))) (take-append_seam new rest)

-- The new words behind the first of them.
pub sets_rest : (n v : ℕ) (new held : List ℕ) → n + 1 + length new ≤ length held → take (length new) (drop (n + 1) (sets held n (v ∷ new))) ≡ new
sets_rest n v new held h =
    let l = length-set held n v in
    rw (add-one n) (sets_there (suc n) new (set held n v) (omega arith))

-- A part of the new words.
pub sets_part : (n : ℕ) (all held x y z : List ℕ) (from to : ℕ) → all ≡ x ++ (y ++ z) → from ≡ n + length x → to ≡ from + length y → to ≤ length held
    → drop from (take to (sets held n all)) ≡ y
sets_part n all held x y z from to e f t h =
    let one = sets held n x in
    let two = sets one from y in
    let w : sets held n all ≡ sets two to z = rw (e, f) (sets_append held n x (y ++ z) ∙ sym (sets_sets _ _ y z one (t ∙ rw f))) in
    let l = length-sets held n x in
    let k : to - from ≡ length y = omega arith in
    rw w (ap (drop from) (sets_before to to z two (omega arith)) ∙ drop_take from to two ∙ rw k (sets_there from y one (omega arith)))

-- New words stored at the front.
pub first_sets : (new old : List ℕ) → length new ≤ length old → sets old 0 new ≡ new ++ drop (length new) old
first_sets new old h = sets-eq new old 0 (omega arith) ∙ ap (λ (k : ℕ). new ++ drop k old) (zero-add (length new))

-- Words that stand there already.
pub sets_same : (new held : List ℕ) → take (length new) held ≡ new → sets held 0 new ≡ held
sets_same new held e =
    let l = length-take (length new) held in
    let n = ap length e in
    first_sets new held (omega arith) ∙ ap (λ (l : List ℕ). l ++ drop (length new) held) (sym e) ∙ take-append-drop (length new) held

-- Memory that is the same from a place on.
module _ (xs ys : List ℕ) (end : ℕ) (same : drop end xs ≡ drop end ys) where
  pub word_same : (i : ℕ) → end ≤ i → get_or xs i 0 ≡ get_or ys i 0
  word_same i h =
      let e : end + (i - end) ≡ i = omega arith in
      let f : get_or xs (end + (i - end)) 0 ≡ get_or ys (end + (i - end)) 0 =
      sym (get_or-drop end xs (i - end) 0) ∙ ap (λ (l : List ℕ). get_or l (i - end) 0) same ∙ get_or-drop end ys (i - end) 0 in
      rw e at f

  pub rest_same : (i : ℕ) → end ≤ i → drop i xs ≡ drop i ys
  rest_same i h =
      let e : end + (i - end) ≡ i = omega arith in
      let f : drop (end + (i - end)) xs ≡ drop (end + (i - end)) ys =
      sym (drop-drop (i - end) end xs) ∙ ap (drop (i - end)) same ∙ drop-drop (i - end) end ys in
      rw e at f

-- Memory from a place on was lent, and came back with new words at its front.
drop_sets : (n i : ℕ) (new held : List ℕ) → drop n (sets held (n + i) new) ≡ sets (drop n held) i new
drop_sets n i [] held = refl
drop_sets n i (v ∷ new) held =
    let e : suc (n + i) ≡ n + suc i = omega arith in
    rw e (drop_sets n (suc i) new (set held (n + i) v) ∙ ap (λ (l : List ℕ). sets l (suc i) new) (drop-set-add n held i v))

pub sets_lent : (n : ℕ) (new held : List ℕ) → put_mid n (length held - n) held (sets (take (length held - n) (drop n held)) 0 new) ≡ sets held n new
sets_lent n new held =
    let k = length held - n in
    let g : length (drop n held) ≤ k = simp length-drop (omega arith) in
    let a : take k (drop n held) ≡ drop n held = take_all k (drop n held) g in
    let b : drop k (drop n held) ≡ [] = drop_of_length-le (drop n held) g in
    let z : n + 0 ≡ n = omega arith in
    let d : sets (drop n held) 0 new ≡ drop n (sets held n new) = sym (rw z at (drop_sets n 0 new held)) in
    rw (a, b, append-nil, d)
    (ap (λ (l : List ℕ). l ++ drop n (sets held n new)) (sym (sets_before n n new held (omega arith))) ∙ take-append-drop n (sets held n new))

-- Memory that is written from the front: `Wrote o i o' rest all` says that of the words `all` the first i stand in o', that the others are `rest`, and
-- that from i on o' holds what o held.
abbrev pub Wrote : List ℕ → ℕ → List ℕ → List ℕ → List ℕ → Type 0
Wrote o i o' rest all = (p : List ℕ) × (length p ≡ i) × (o' ≡ sets o 0 p) × (p ++ rest ≡ all)

pub wrote_start : (o all : List ℕ) → Wrote o 0 o all all
wrote_start o all = ([], refl, refl, refl)

-- More words, one behind the other.
wrote_sets : (o : List ℕ) (i k : ℕ) (o' xs rest all : List ℕ) → length xs ≡ k → Wrote o i o' (xs ++ rest) all → Wrote o (i + k) (sets o' i xs) rest all
wrote_sets o i k o' xs rest all e w =
    let p = w.0 in
    let f = w.1 in
    (p ++ xs, length-append p xs ∙ omega arith, rw w.2 (sets_sets 0 i p xs o (omega arith)), append_assoc p xs rest ∙ w.3)

pub wrote_put : (o : List ℕ) (i : ℕ) (o' rest all : List ℕ) (v : ℕ) → Wrote o i o' (v ∷ rest) all → Wrote o (i + 1) (set o' i v) rest all
wrote_put o i o' rest all v w = wrote_sets o i 1 o' (v ∷ []) rest all refl w

pub wrote_lent : (o : List ℕ) (n : ℕ) (t xs rest all ys : List ℕ) (k : ℕ) → length xs ≡ k → Wrote o n t (xs ++ rest) all
    → ys ≡ sets (take (length t - n) (drop n t)) 0 xs → Wrote o (n + k) (put_mid n (length t - n) t ys) rest all
wrote_lent o n t xs rest all ys k e w y = rw (y, sets_lent n xs t) (wrote_sets o n k t xs rest all e w)

pub wrote_length : (o : List ℕ) (i : ℕ) (o' rest all : List ℕ) → Wrote o i o' rest all → length o' ≡ length o
wrote_length o i o' rest all w = rw w.2 (length-sets o 0 w.0)

-- How many words are left.
pub wrote_left : (o : List ℕ) (i : ℕ) (o' rest all : List ℕ) → Wrote o i o' rest all → i + length rest ≡ length all
wrote_left o i o' rest all w = rw (← w.3) (simp (length-append, w.1))

-- All is written.
pub wrote_end : (o : List ℕ) (i : ℕ) (o' all : List ℕ) → Wrote o i o' [] all → o' ≡ sets o 0 all
wrote_end o i o' all w =
    let e : w.0 ≡ all = sym (append-nil w.0) ∙ w.3 in
    rw (← e) w.2
