-- Laws of a measure's line, step by step, and of the fields of words.
use Prim.Native.Nat.{ℕ, zero, suc, ◌+◌, ◌-◌, ◌<◌, ◌≤◌, min}
use mathlib.Core.Path.{◌≡◌, refl, sym, ap, ◌∙◌}
use mathlib.Core.List.{List, [], ◌∷◌, ◌++◌, map, append_assoc, flat_map}
use mathlib.Core.Bool.{true}
use native.Mathlib.Numerals.{add-one}
use native.Mathlib.Omega.{arith}
use borrow.Author.Tests.{lt-ltb, le-ltb, ne_eqb, leb-true, leb-false}
use lib.Dec.{leb}
use lib.ListN.{length, take, drop, get_or, replicate, length-map, length-drop, drop_of_length-le, get_or-eq_default}
use lib.Seq.{drop-cons, drop-length, take_all}
use Rattle.songcode.specs.Lists.{provided◌then◌else◌, every}
use Rattle.songcode.specs.Bytes.{ascii}
use Rattle.songcode.specs.Answer.Chords.{bases, spelling_of}
use Rattle.songcode.specs.Answer.Tables.{measure_word}
use Rattle.songcode.specs.Description.Layout.{field}
use Rattle.songcode.specs.Answer.Flat.{parted, spaced, end_line}
use Rattle.songcode.specs.Description.WrittenFlat.{stretch_at}
use Rattle.songcode.proofs.ListLaws.{both_pass, by_cases}
use Rattle.songcode.proofs.CopyWords.{bit_small}
use Rattle.text.specs.Spans.{part}
use Rattle.tokens.specs.Bases.{unpadded}
use Rattle.packing.specs.declared.fields.MeasureFields.{MeasureFields}
use Rattle.packing.specs.declared.fields.BeatFields.{BeatFields}
use Rattle.packing.specs.Fields.{HoldsMeasure, packed_beat, HoldsBeat}
use Rattle.flat.specs.Sheets.{Sheet, puts}
use Rattle.flat.specs.Measures.{letters_at, gap, positions, measure_line, beats_in, measure_lines}
use Rattle.flat.proofs.SheetLaws.{puts_append, puts_two, no_bytes}

-- The fields of a beat's word, of a measure's.
pub beat_fields_lem : {w : ℕ} {b : BeatFields} → HoldsBeat w b → (field 26 6 w ≡ b.base) × (field 10 16 w ≡ b.extension) × (field 5 5 w ≡ b.length)
unfolding field packed_beat
beat_fields_lem {b = b} h = let small = bit_small b.head in (omega arith, omega arith, omega arith)

pub measure_fields : {w : ℕ} {m : MeasureFields} → HoldsMeasure w m → (field 11 21 w ≡ m.first) × (field 5 6 w ≡ m.beats)
unfolding field measure_word
measure_fields h = (omega arith, omega arith)

-- A stretch that may reach past the end of a text.
take_least : {A : Type 0} (s : List A) (k : ℕ) → take (min k (length s)) s ≡ take k s
take_least s k =
    by_cases
    (leb (length s) k)
    (λ t. let h : length s ≤ k = leb-true _ _ t in
    let e : min k (length s) ≡ length s = omega arith in
    rw (e, take_all k s h) (take_all (length s) s (omega arith)))
    (λ t. let h : k < length s = leb-false _ _ t in
    let e : min k (length s) ≡ k = omega arith in rw e)

drop_least : {A : Type 0} (s : List A) (f : ℕ) → drop (min f (length s)) s ≡ drop f s
drop_least s f =
    by_cases
    (leb (length s) f)
    (λ t. let h : length s ≤ f = leb-true _ _ t in
    let e : min f (length s) ≡ length s = omega arith in rw (e, drop_of_length-le s h) (drop-length s))
    (λ t. let h : f < length s = leb-false _ _ t in
    let e : min f (length s) ≡ f = omega arith in rw e)

pub stretch_part : {A : Type 0} (s : List A) (f k : ℕ) → take (min (f + k) (length s) - min f (length s)) (drop (min f (length s)) s) ≡ take k (drop f s)
stretch_part s f k =
    let l = length-drop f s in
    let e : min (f + k) (length s) - min f (length s) ≡ min k (length (drop f s)) = omega arith in
    rw (e, drop_least s f) (take_least (drop f s) k)

-- A base chord's letters, byte by byte: at most three.
letters_few : (bs : List (List ℕ)) (n : ℕ) → every (λ b. leb (length b) 3) bs ≡ true → length (get_or bs n []) ≤ 3
unfolding every
letters_few [] n e = omega arith
letters_few (b ∷ bs) zero e = leb-true _ _ (both_pass (leb (length b) 3) (every (λ c. leb (length c) 3) bs) e).0
letters_few (b ∷ bs) (suc n) e = letters_few bs n (both_pass (leb (length b) 3) (every (λ c. leb (length c) 3) bs) e).1

pub spelling_short : (n : ℕ) → length (spelling_of n) ≤ 3
unfolding spelling_of bases every
spelling_short n = letters_few bases n refl

base_stop : (name : List ℕ) (k : ℕ) → get_or name k 0 ≡ 0 → unpadded (drop k name) ≡ []
unfolding unpadded provided◌then◌else◌
base_stop name k e =
    by_cases
    (leb (length name) k)
    (λ t. rw (drop_of_length-le name (leb-true _ _ t)))
    (λ t. rw (drop-cons name k 0 (leb-false _ _ t), e))

base_more : (name : List ℕ) (k : ℕ) → (get_or name k 0 ≡ 0 → ⊥) → unpadded (drop k name) ≡ get_or name k 0 ∷ unpadded (drop (k + 1) name)
unfolding unpadded provided◌then◌else◌
base_more name k n =
    by_cases
    (leb (length name) k)
    (λ t. absurd (n (get_or-eq_default name 0 (leb-true _ _ t))))
    (λ t. rw (add-one k, drop-cons name k 0 (leb-false _ _ t), ne_eqb _ _ n))

pub base_next : (name : List ℕ) (k : ℕ) (x y goal : Sheet) → (get_or name k 0 ≡ 0 → ⊥) → y ≡ puts (get_or name k 0 ∷ []) x
    → (length (unpadded (drop k name)) + k ≤ 3) × (puts (unpadded (drop k name)) x ≡ goal)
    → (length (unpadded (drop (k + 1) name)) + (k + 1) ≤ 3) × (puts (unpadded (drop (k + 1) name)) y ≡ goal)
unfolding puts
base_next name k x y goal n e h =
    let m = base_more name k n in
    let l : length (unpadded (drop k name)) ≡ suc (length (unpadded (drop (k + 1) name))) = ap length m in
    (omega (arith, h.0), rw e (rw m at h).1)

pub base_done : (name : List ℕ) (k : ℕ) (x goal : Sheet) → get_or name k 0 ≡ 0 → puts (unpadded (drop k name)) x ≡ goal → x ≡ goal
unfolding puts
base_done name k x goal e g = rw (base_stop name k e) at g

pub base_over : (name : List ℕ) (k : ℕ) (x goal : Sheet) → 3 ≤ k → length (unpadded (drop k name)) + k ≤ 3 → puts (unpadded (drop k name)) x ≡ goal → x ≡ goal
unfolding puts
base_over name k x goal h l g = rw (no_bytes (unpadded (drop k name)) (omega arith)) at g

-- A beat's letters.
pub letters_none : (s : List ℕ) (w : ℕ) (b : BeatFields) → HoldsBeat w b → 33 < b.base → letters_at s w ≡ 95 ∷ []
unfolding letters_at provided◌then◌else◌ ascii
letters_none s w b h f = rw ((beat_fields_lem h).0, lt-ltb _ _ f)

pub letters_some : (s : List ℕ) (w : ℕ) (b : BeatFields) → HoldsBeat w b → b.base ≤ 33
    → letters_at s w ≡ spelling_of b.base ++ part (min b.extension (length s)) (min (b.extension + b.length) (length s)) s
unfolding letters_at provided◌then◌else◌ stretch_at
letters_some s w b h f =
    let e = beat_fields_lem h in
    rw (e.0, le-ltb _ _ f, e.1, e.2) (ap (λ (t : List ℕ). spelling_of b.base ++ t) (sym (stretch_part s b.extension b.length)))

pub letters_are : (s : List ℕ) (w : ℕ) (b : BeatFields) (start stop : ℕ) (x y z : Sheet) → HoldsBeat w b → b.base ≤ 33
    → start ≡ min b.extension (length s) → stop ≡ min (b.extension + b.length) (length s)
    → y ≡ puts (spelling_of b.base) x → z ≡ puts (part start stop s) y → z ≡ puts (letters_at s w) x
letters_are s w b start stop x y z h f p q d e =
    rw (letters_some s w b h f, ← p, ← q) (puts_two (spelling_of b.base) (part start stop s) x y z d e)

-- Positions of a line, one by one.
positions_step : (i : ℕ) (w : List ℕ) (ws : List (List ℕ)) → positions i (w ∷ ws) ≡ gap i ++ (w ++ positions (i + 1) ws)
unfolding positions gap parted spaced
positions_step zero w ws = refl
positions_step (suc i) w ws = rw (add-one (suc i)) refl

pub position_next : (i : ℕ) (w : List ℕ) (ws : List (List ℕ)) (x y z goal : Sheet) → y ≡ puts (gap i) x → z ≡ puts w y
    → puts (positions i (w ∷ ws)) x ≡ goal → puts (positions (i + 1) ws) z ≡ goal
position_next i w ws x y z goal e f g =
    rw (f, e) (sym (puts_append w (positions (i + 1) ws) (puts (gap i) x)) ∙ sym (puts_append (gap i) (w ++ positions (i + 1) ws) x)
    ∙ sym (ap (λ (t : List ℕ). puts t x) (positions_step i w ws)) ∙ g)

positions_none : (i : ℕ) → positions i [] ≡ []
unfolding positions parted spaced
positions_none zero = refl
positions_none (suc i) = refl

pub gap_none : (i : ℕ) (x : Sheet) → i ≡ 0 → x ≡ puts (gap i) x
unfolding gap puts
gap_none i x e = rw e refl

pub gap_some : (i : ℕ) → (i ≡ 0 → ⊥) → gap i ≡ 32 ∷ []
unfolding gap
gap_some zero n = absurd (n refl)
gap_some (suc i) n = refl

-- The beats that are there.
pub beat_next : (f : ℕ → List ℕ) (bs : List ℕ) (i : ℕ) (x y z goal : Sheet) → i < length bs → y ≡ puts (gap i) x → z ≡ puts (f (get_or bs i 0)) y
    → puts (positions i (map f (drop i bs))) x ≡ goal → puts (positions (i + 1) (map f (drop (i + 1) bs))) z ≡ goal
beat_next f bs i x y z goal h e d g =
    let c : drop i bs ≡ get_or bs i 0 ∷ drop (i + 1) bs = rw (add-one i) (drop-cons bs i 0 h) in
    position_next i (f (get_or bs i 0)) (map f (drop (i + 1) bs)) x y z goal e d (rw c at g)

pub beat_over : (f : ℕ → List ℕ) (bs : List ℕ) (i : ℕ) (x goal : Sheet) → length bs ≤ i → puts (positions i (map f (drop i bs))) x ≡ goal → x ≡ goal
unfolding puts
beat_over f bs i x goal h g = rw (drop_of_length-le bs h, positions_none i) at g

-- The beats that are missing.
pub missing_next : (n i : ℕ) (w : List ℕ) (x y z goal : Sheet) → i < n → y ≡ puts (gap i) x → z ≡ puts w y
    → puts (positions i (replicate (n - i) w)) x ≡ goal → puts (positions (i + 1) (replicate (n - (i + 1)) w)) z ≡ goal
missing_next n i w x y z goal h e d g =
    let c : n - i ≡ suc (n - (i + 1)) = omega arith in
    position_next i w (replicate (n - (i + 1)) w) x y z goal e d (rw c at g)

pub missing_over : (n i : ℕ) (w : List ℕ) (x goal : Sheet) → n ≤ i → puts (positions i (replicate (n - i) w)) x ≡ goal → x ≡ goal
unfolding puts
missing_over n i w x goal h g = let c : n - i ≡ 0 = omega arith in rw (c, positions_none i) at g

-- A line of a measure: its beats, then what is missing.
parted_append : (a b : List (List ℕ)) → parted (a ++ b) ≡ parted a ++ parted b
unfolding parted
parted_append [] b = refl
parted_append (w ∷ a) b = ap (λ (t : List ℕ). (32 ∷ w) ++ t) (parted_append a b) ∙ sym (append_assoc (32 ∷ w) (parted a) (parted b))

spaced_append : (a b : List (List ℕ)) → spaced (a ++ b) ≡ spaced a ++ positions (length a) b
unfolding spaced positions
spaced_append [] b = refl
spaced_append (w ∷ a) b = ap (λ (t : List ℕ). w ++ t) (parted_append a b) ∙ sym (append_assoc w (parted a) (parted b))

pub line_is : (s : List ℕ) (n : ℕ) (bs : List ℕ)
    → measure_line s n bs ≡ spaced (map (letters_at s) bs) ++ positions (length bs) (replicate (n - length bs) (ascii "="))
unfolding measure_line
line_is s n bs =
    let e : length (map (letters_at s) bs) ≡ length bs = length-map bs (letters_at s) in
    spaced_append (map (letters_at s) bs) (replicate (n - length bs) (ascii "="))
    ∙ ap (λ (k : ℕ). spaced (map (letters_at s) bs) ++ positions k (replicate (n - length bs) (ascii "="))) e

pub line_put : (s : List ℕ) (n : ℕ) (bs : List ℕ) (x y z w : Sheet) → y ≡ puts (spaced (map (letters_at s) bs)) x
    → z ≡ puts (positions (length bs) (replicate (n - length bs) (ascii "="))) y → w ≡ puts (10 ∷ []) z → w ≡ puts (end_line (measure_line s n bs)) x
unfolding end_line
line_put s n bs x y z w e f g =
    rw (line_is s n bs) (puts_two (spaced (map (letters_at s) bs) ++ positions (length bs) (replicate (n - length bs) (ascii "="))) (10 ∷ []) x z w
    (puts_two (spaced (map (letters_at s) bs)) (positions (length bs) (replicate (n - length bs) (ascii "="))) x y z e f) g)

-- Measures, one by one.
beats_part : (bs : List ℕ) (w : ℕ) (m : MeasureFields) (first end : ℕ) → HoldsMeasure w m → first ≡ min m.first (length bs)
    → end ≡ min (m.first + m.beats) (length bs) → part first end bs ≡ beats_in bs w
unfolding beats_in
beats_part bs w m first end held p q = let e = measure_fields held in rw (p, q, e.0, e.1) (stretch_part bs m.first m.beats)

pub measure_next : (s : List ℕ) (n : ℕ) (bs ms : List ℕ) (i : ℕ) (m : MeasureFields) (first end : ℕ) (x y goal : Sheet) → i < length ms
    → HoldsMeasure (get_or ms i 0) m → first ≡ min m.first (length bs) → end ≡ min (m.first + m.beats) (length bs)
    → y ≡ puts (end_line (measure_line s n (part first end bs))) x
    → puts (measure_lines s n (map (beats_in bs) (drop i ms))) x ≡ goal
    → puts (measure_lines s n (map (beats_in bs) (drop (i + 1) ms))) y ≡ goal
unfolding measure_lines flat_map
measure_next s n bs ms i m first end x y goal h held p q d g =
    let c : drop i ms ≡ get_or ms i 0 ∷ drop (i + 1) ms = rw (add-one i) (drop-cons ms i 0 h) in
    let r = measure_lines s n (map (beats_in bs) (drop (i + 1) ms)) in
    rw (d, beats_part bs (get_or ms i 0) m first end held p q)
    (sym (puts_append (end_line (measure_line s n (beats_in bs (get_or ms i 0)))) r x) ∙ (rw c at g))

pub measure_over : (s : List ℕ) (n : ℕ) (bs ms : List ℕ) (i : ℕ) (x goal : Sheet) → length ms ≤ i
    → puts (measure_lines s n (map (beats_in bs) (drop i ms))) x ≡ goal → x ≡ goal
unfolding measure_lines flat_map puts
measure_over s n bs ms i x goal h g = rw (drop_of_length-le ms h) at g
