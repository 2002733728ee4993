-- Laws of a sheet: bytes one behind the other, the count, and what the buffer holds in the end.
use Prim.Native.Nat.{ℕ, suc, ◌+◌, ◌<◌, ◌≤◌, min}
use mathlib.Core.Path.{◌≡◌, refl, sym, ap, ◌∙◌}
use mathlib.Core.List.{List, [], ◌∷◌, ◌++◌}
use native.Mathlib.Numerals.{add-one}
use native.Mathlib.Omega.{arith}
use borrow.Author.Tests.{lt-ltb, le-ltb, ltb-true, ltb-false}
use lib.Dec.{ltb}
use lib.ListN.{drop_of_length-le, length, drop, get_or, set}
use lib.Seq.{sets, drop-cons}
use Rattle.songcode.specs.Lists.{provided◌then◌else◌}
use Rattle.songcode.specs.Answer.Answer.{most_bytes}
use Rattle.songcode.proofs.ListLaws.{by_cases}
use Rattle.flat.specs.Sheets.{Sheet, put_one, puts}

-- One byte: past the most bytes nothing is looked at, before them it is counted.
pub put_full : (b : ℕ) (x : Sheet) → 65536 < x.at → put_one b x ≡ x
unfolding put_one provided◌then◌else◌ most_bytes
put_full b x h = rw (lt-ltb _ _ h)

pub put_room : (b : ℕ) (x : Sheet) → x.at ≤ 65536 → put_one b x ≡ record { copy = set x.copy x.at b; at = x.at + 1 }
unfolding put_one provided◌then◌else◌ most_bytes
put_room b x h = rw (le-ltb _ _ h)

-- Both cases of a sheet.
by_room : {X : Type 0} (x : Sheet) → (65536 < x.at → X) → (x.at ≤ 65536 → X) → X
by_room x f g = by_cases (ltb 65536 x.at) (λ t. f (ltb-true _ _ t)) (λ t. g (ltb-false _ _ t))

-- What stands behind is put behind.
pub puts_append : (a b : List ℕ) (x : Sheet) → puts (a ++ b) x ≡ puts b (puts a x)
unfolding puts
puts_append [] b x = refl
puts_append (c ∷ a) b x = puts_append a b (put_one c x)

-- The same for calls in a row.
pub puts_two : (a b : List ℕ) (x y z : Sheet) → y ≡ puts a x → z ≡ puts b y → z ≡ puts (a ++ b) x
puts_two a b x y z e f = f ∙ ap (λ (w : Sheet). puts b w) e ∙ sym (puts_append a b x)

-- Past the most bytes nothing changes.
pub puts_full : (bs : List ℕ) (x : Sheet) → 65536 < x.at → puts bs x ≡ x
unfolding puts
puts_full [] x h = refl
puts_full (b ∷ bs) x h = rw (put_full b x h) (puts_full bs x h)

-- What has no bytes is empty.
pub no_bytes : (bs : List ℕ) → length bs ≤ 0 → bs ≡ []
no_bytes [] h = refl
no_bytes (b ∷ bs) h = let z : ⊥ = omega arith in absurd z

-- The count is that of the bytes, up to one past the most.
puts_count : (bs : List ℕ) (x : Sheet) → x.at ≤ 65537 → (puts bs x).at ≡ min 65537 (x.at + length bs)
unfolding puts
puts_count [] x h = omega arith
puts_count (b ∷ bs) x h =
    by_room
    x
    (λ f. ap (λ (y : Sheet). y.at) (puts_full (b ∷ bs) x f) ∙ omega arith)
    (λ r. let e : (put_one b x).at ≡ x.at + 1 = ap (λ (y : Sheet). y.at) (put_room b x r) in puts_count bs (put_one b x) (omega arith) ∙ omega arith)

pub puts_at : (bs c : List ℕ) → (puts bs (record { copy = c; at = 0 })).at ≡ min 65537 (length bs)
puts_at bs c = puts_count bs (record { copy = c; at = 0 }) (omega arith) ∙ omega arith

-- Where they are few enough, they stand in the buffer one behind the other.
pub puts_sets : (bs : List ℕ) (x : Sheet) → x.at + length bs ≤ 65537 → (puts bs x).copy ≡ sets x.copy x.at bs
unfolding puts
puts_sets [] x h = refl
puts_sets (b ∷ bs) x h =
    let e = put_room b x (omega arith) in
    let a : (put_one b x).at ≡ x.at + 1 = ap (λ (y : Sheet). y.at) e in
    puts_sets bs (put_one b x) (omega arith) ∙ rw (e, add-one x.at) refl

-- What `put` does.
pub put_is : (b : ℕ) (c d : List ℕ) (at : ℕ) → at ≤ 65536 → d ≡ set c at b
    → ◌≡◌ {A = Sheet} (record { copy = d; at = at + 1 }) (puts (b ∷ []) (record { copy = c; at = at }))
unfolding puts
put_is b c d at h e = rw e (sym (put_room b (record { copy = c; at = at }) h))

pub put_over : (b : ℕ) (c : List ℕ) (at : ℕ) → 65536 < at → ◌≡◌ {A = Sheet} (record { copy = c; at = at }) (puts (b ∷ []) (record { copy = c; at = at }))
put_over b c at h = sym (puts_full (b ∷ []) (record { copy = c; at = at }) h)

-- One of some bytes, and their end.
pub byte_next : (bs : List ℕ) (i : ℕ) (x y goal : Sheet) → i < length bs → y ≡ puts (get_or bs i 0 ∷ []) x
    → puts (drop i bs) x ≡ goal → puts (drop (i + 1) bs) y ≡ goal
unfolding puts
byte_next bs i x y goal h e g =
    let d : drop i bs ≡ get_or bs i 0 ∷ drop (suc i) bs = drop-cons bs i 0 h in
    rw (e, add-one i) (rw d at g)

pub byte_over : (bs : List ℕ) (i : ℕ) (x goal : Sheet) → length bs ≤ i → puts (drop i bs) x ≡ goal → x ≡ goal
unfolding puts
byte_over bs i x goal h g = rw (drop_of_length-le bs h) at g
