-- The last word of a text, and the marks around it.
use Prim.Native.Nat.{ℕ, zero, suc, ◌+◌, ◌-◌, ◌<◌, ◌≤◌}
use mathlib.Core.Path.{◌≡◌, refl, sym, ap, ◌∙◌}
use mathlib.Core.List.{List, [], ◌∷◌, ◌++◌, reverse, reverse-cons, reverse-append}
use mathlib.Core.Bool.{Bool, true, false, not, ◌&&◌}
use native.Mathlib.Omega.{arith}
use borrow.Author.Tests.{leb-true, leb-false}
use lib.Dec.{leb}
use lib.ListN.{length, get_or, drop, length-drop, length-reverse, get_or-append}
use lib.Seq.{take-suc, get_or-drop, get_or_at, length-take-le}
use Rattle.std.specs.Prelude as std
use Rattle.std.specs.List.{position}
use Rattle.std.specs.Option.{MatchOption, unwrap_or}
use Rattle.text.proofs.WalkLaws.{part_length}
use Rattle.text.proofs.FirstLaws.{counted}
use Rattle.settings.specs.Parts.{passing}
use Rattle.songcode.specs.Lists.{provided◌then◌else◌, left}
use Rattle.songcode.specs.Bytes.{placed, begins, not_blank, is_blank}
use Rattle.songcode.specs.Answer.Lyrics.{bracketed}
use Rattle.songcode.proofs.ByteLaws.{values_placed, length_placed, placed_append}
use Rattle.songcode.proofs.ListLaws.{by_cases}
use Rattle.songcode.proofs.StyleAgree.{values_reverse}
use Rattle.text.specs.Spans.{blank, part}

-- The last byte of a part, and the part without it.
part_last : (s : List ℕ) (a z : ℕ) → a < z → z ≤ length s → part a z s ≡ part a (z - 1) s ++ (get_or s (z - 1) 0 ∷ [])
part_last s a z h k =
    let n = length-drop a s in
    let e : z - a ≡ suc (z - 1 - a) = omega arith in
    let f : a + (z - 1 - a) ≡ z - 1 = omega arith in
    rw (e, take-suc (drop a s) (z - 1 - a) 0 (omega arith), get_or-drop a s (z - 1 - a) 0, f)

pub reverse_part : (s : List ℕ) (a z : ℕ) → a < z → z ≤ length s
    → reverse (placed a (part a z s)) ≡ record { place = z - 1; value = get_or s (z - 1) 0 } ∷ reverse (placed a (part a (z - 1) s))
unfolding placed
reverse_part s a z h k =
    let n = length-drop a s in
    let l = length-take-le (z - 1 - a) (drop a s) (omega arith) in
    let f : a + (z - 1 - a) ≡ z - 1 = omega arith in
    rw (part_last s a z h k, placed_append a (part a (z - 1) s) (get_or s (z - 1) 0 ∷ []), l, f)
    (reverse-append (placed a (part a (z - 1) s)) (record { place = z - 1; value = get_or s (z - 1) 0 } ∷ []))

word_stop : (s : List ℕ) (a z : ℕ) → a < z → z ≤ length s → blank (get_or s (z - 1) 0) ≡ true
    → left not_blank (reverse (placed a (part a z s))) ≡ reverse (placed a (part a z s))
unfolding left not_blank is_blank provided◌then◌else◌
word_stop s a z h k e = rw (reverse_part s a z h k, e)

word_more : (s : List ℕ) (a z : ℕ) → a < z → z ≤ length s → blank (get_or s (z - 1) 0) ≡ false
    → left not_blank (reverse (placed a (part a z s))) ≡ left not_blank (reverse (placed a (part a (z - 1) s)))
unfolding left not_blank is_blank provided◌then◌else◌
word_more s a z h k e = rw (reverse_part s a z h k, e)

word_over : (s : List ℕ) (a z : ℕ) → z ≡ a → left not_blank (reverse (placed a (part a z s))) ≡ reverse (placed a (part a z s))
unfolding left placed
word_over s a z e = let f : z - a ≡ 0 = omega arith in rw f

-- The bytes of the last word, counted from the end.
abbrev solid : ℕ → Bool
solid b = not (blank b)

word_length_back : (s : List ℕ) (a z : ℕ) → a < z → z ≤ length s
    → passing solid (reverse (part a z s)) ≡ (provided solid (get_or s (z - 1) 0) then suc (passing solid (reverse (part a (z - 1) s))) else 0)
unfolding passing
word_length_back s a z h k = rw (part_last s a z h k, reverse-append (part a (z - 1) s) (get_or s (z - 1) 0 ∷ [])) refl

word_back : (s : List ℕ) (a d z : ℕ) → z ≡ a + d → z ≤ length s
    → left not_blank (reverse (placed a (part a z s))) ≡ reverse (placed a (part a (z - passing solid (reverse (part a z s))) s))
unfolding passing provided◌then◌else◌
word_back s a zero z e k =
    let f : z - a ≡ 0 = omega arith in
    let g : z - 0 - a ≡ 0 = omega arith in
    word_over s a z (omega arith) ∙ rw (f, g) refl
word_back s a (suc d) z e k =
    let h : a < z = omega arith in
    by_cases
    (blank (get_or s (z - 1) 0))
    (λ t. let f : z - 0 ≡ z = omega arith in
    word_stop s a z h k t ∙ rw (word_length_back s a z h k, t, f) refl)
    (λ t. let m = passing solid (reverse (part a (z - 1) s)) in
    let f : z - suc m ≡ z - 1 - m = omega arith in
    word_more s a z h k t ∙ word_back s a d (z - 1) (omega arith) (omega arith) ∙ rw (word_length_back s a z h k, t, f) refl)

first_blank : (bs : List ℕ) {o : std.Option ℕ} → o ≡ position blank bs → unwrap_or o (length bs) ≡ passing solid bs
unfolding passing provided◌then◌else◌
first_blank = counted (passing solid) blank refl (λ b bs. by_cases (blank b) (λ t. rw t) (λ t. rw t (omega arith)))

-- The last word begins behind the last blank, which `rposition` finds.
pub word_found : (s : List ℕ) (a e : ℕ) → a ≤ e → e ≤ length s → (r : std.Option ℕ) {n z : ℕ} → n ≡ length (part a e s)
    → MatchOption r (std.None ≡ position blank (reverse (part a e s))) (λ i. (m : ℕ) × (m + i + 1 ≡ n) × (std.Some m ≡ position blank (reverse (part a e s))))
    → MatchOption r (z ≡ a) (λ i. z ≡ a + i + 1)
    → (left not_blank (reverse (placed a (part a e s))) ≡ reverse (placed a (part a z s))) × (a ≤ z) × (z ≤ e)
word_found s a e h k r {n} {z} l p q = go r p q
  where
    bytes : List ℕ
    bytes = part a e s

    found : z ≡ e - passing solid (reverse bytes) → left not_blank (reverse (placed a bytes)) ≡ reverse (placed a (part a z s))
    found f = word_back s a (e - a) e (omega arith) k ∙ ap (λ y. reverse (placed a (part a y s))) (sym f)

    go : (o : std.Option ℕ)
        → MatchOption o (std.None ≡ position blank (reverse bytes)) (λ i. (m : ℕ) × (m + i + 1 ≡ n) × (std.Some m ≡ position blank (reverse bytes)))
        → MatchOption o (z ≡ a) (λ i. z ≡ a + i + 1)
        → (left not_blank (reverse (placed a bytes)) ≡ reverse (placed a (part a z s))) × (a ≤ z) × (z ≤ e)
    go std.None p q =
        let g = first_blank (reverse bytes) p in
        let b = length-reverse bytes in
        let c = part_length s a e k in
        (found (omega arith), omega arith, omega arith)
    go (std.Some i) (m, y, p) q =
        let g = first_blank (reverse bytes) p in
        let c = part_length s a e k in
        (found (omega arith), omega arith, omega arith)

pub get_d_reverse : (w : List ℕ) (k : ℕ) → k < length w → get_or (reverse w) k 0 ≡ get_or w (length w - (k + 1)) 0
get_d_reverse [] k h = let z : ⊥ = omega arith in absurd z
get_d_reverse (x ∷ w) k h =
    let n = length-reverse w in
    by_cases
    (leb (length w) k)
    (λ t. let m = leb-true (length w) k t in
    let e : suc (length w) - (k + 1) ≡ 0 = omega arith in rw (reverse-cons x w, e)
    (get_or_at (reverse w) x [] 0 k (omega arith)))
    (λ t. let m = leb-false (length w) k t in
    let e : suc (length w) - (k + 1) ≡ suc (length w - (k + 1)) = omega arith in rw (reverse-cons x w, e)
    (get_or-append (reverse w) (x ∷ []) 0 k (omega arith) ∙ get_d_reverse w k (omega arith)))

-- Three bytes in front.
pub begins_three : (m : ℕ) (w : List ℕ) → 3 ≤ length w → begins (m ∷ m ∷ m ∷ []) w ≡ begins (m ∷ m ∷ m ∷ []) (get_or w 0 0 ∷ get_or w 1 0 ∷ get_or w 2 0 ∷ [])
unfolding begins
begins_three m [] h = let z : ⊥ = omega arith in absurd z
begins_three m (x ∷ []) h = let z : ⊥ = omega arith in absurd z
begins_three m (x ∷ y ∷ []) h = let z : ⊥ = omega arith in absurd z
begins_three m (x ∷ y ∷ z ∷ w) h = refl

pub bracketed_values : (mark : List ℕ) (a : ℕ) (w : List ℕ) → bracketed mark (placed a w) ≡ begins mark w && begins mark (reverse w) && leb 7 (length w)
unfolding bracketed
bracketed_values mark a w = rw (values_reverse (placed a w), values_placed a w, length_placed a w)
