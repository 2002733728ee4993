-- Words by their layout: what is packed is read back, and every word of the five tables is its row's fields packed.
use Prim.Native.Nat.{ℕ, zero, suc, ◌+◌, ◌*◌, ◌/◌, ◌%◌, ◌^◌, ◌<◌}
use mathlib.Core.Path.{◌≡◌, refl, ap, sym, ◌∙◌}
use mathlib.Core.List.{List, [], ◌∷◌}
use mathlib.Core.Bool.{Bool}
use mathlib.Core.Option.{Option, none, some}
use native.Mathlib.Nat.{pow-zero, pow-suc, zero-add, add-zero, suc-add, suc-mul, mul_assoc, mul_right_comm, mul-le-mul_right, mul-add-div_right}
use native.Mathlib.Nat.{mul-add-mod_self_right, mod-eq_of_lt, div-eq_of_lt, div-add-mod', mod-lt, div-lt_iff_lt-mul, add_assoc}
use native.Mathlib.Omega.{arith}
use Rattle.songcode.specs.Lists.{sum}
use Rattle.songcode.specs.Bytes.{Byte}
use Rattle.songcode.specs.Answer.Chords.{Chord}
use Rattle.songcode.specs.Answer.Lyrics.{Prompt}
use Rattle.songcode.specs.Answer.Tables.{key_word, section_word, measure_word, beat_by, item_word, head_bit, offset}
use Rattle.songcode.specs.Description.Joined.{first_beat, beat_count, first_measure, measure_count, section_bpm}
use Rattle.songcode.specs.Description.Layout.{keys_row, sections_row, measures_row, beats_row, items_row, spare, packed, laid, field, unpacked, fields_of, Fit}
use Rattle.songcode.specs.Description.Layout.{Laid}
use Rattle.songcode.specs.Description.Layout.{key_fields, beat_fields, item_fields}

power_sum : (a b : ℕ) → 2 ^ (a + b) ≡ 2 ^ a * 2 ^ b
power_sum zero b = rw (zero-add b, pow-zero 2) (omega arith)
power_sum (suc a) b = rw (suc-add a b, pow-suc 2 (a + b), pow-suc 2 a, power_sum a b) (sym (mul_right_comm (2 ^ a) 2 (2 ^ b)))

power_positive : (a : ℕ) → 0 < 2 ^ a
power_positive zero = rw (pow-zero 2) (omega arith)
power_positive (suc a) = let h = power_positive a in rw (pow-suc 2 a) (omega arith)

-- One field on top of what is below it.
on_top : (w low v rest : ℕ) → v < 2 ^ w → rest < 2 ^ low → v * 2 ^ low + rest < 2 ^ (w + low)
on_top w low v rest h k =
    let m = mul-le-mul_right {m = suc v} {n = 2 ^ w} (2 ^ low) h in
    let s = suc-mul v (2 ^ low) in
    let e = power_sum w low in omega arith

field_top : (w low v rest : ℕ) → v < 2 ^ w → rest < 2 ^ low → field low w (v * 2 ^ low + rest) ≡ v
unfolding field
field_top w low v rest h k =
    rw (mul-add-div_right (power_positive low) v rest, div-eq_of_lt k, add-zero v) (mod-eq_of_lt h)

-- What stands above a field does not matter to it.
field_below : (w low x rest : ℕ) → field low w (x * 2 ^ (w + low) + rest) ≡ field low w rest
unfolding field
field_below w low x rest =
    rw (power_sum w low, ← mul_assoc x (2 ^ w) (2 ^ low), mul-add-div_right (power_positive low) (x * 2 ^ w) rest)
    (mul-add-mod_self_right x (2 ^ w) (rest / 2 ^ low))

unpacked_below : (low : ℕ) (ws : List ℕ) (x rest : ℕ) → unpacked low ws (x * 2 ^ (sum ws + low) + rest) ≡ unpacked low ws rest
unfolding unpacked sum
unpacked_below low [] x rest = refl
unpacked_below low (w ∷ ws) x rest =
    let s = add_assoc w (sum ws) low in
    let p : x * 2 ^ (w + (sum ws + low)) ≡ x * 2 ^ w * 2 ^ (sum ws + low) = rw (power_sum w (sum ws + low)) (sym (mul_assoc x (2 ^ w) (2 ^ (sum ws + low)))) in
    rw (s, field_below w (sum ws + low) x rest, p, unpacked_below low ws (x * 2 ^ w) rest)

-- Packed fields and the bits below them fill no more than their bits, and are read back.
packed_small : (low : ℕ) (ws vs : List ℕ) (rest : ℕ) → Fit ws vs → rest < 2 ^ low → packed low ws vs + rest < 2 ^ (sum ws + low)
unfolding packed sum Fit
packed_small low [] [] rest f h = rw (zero-add rest, zero-add low) h
packed_small low [] (v ∷ vs) rest f h = elim f [ ]
packed_small low (w ∷ ws) [] rest f h = elim f [ ]
packed_small low (w ∷ ws) (v ∷ vs) rest f h =
    let k = packed_small low ws vs rest f.1 h in
    rw (add_assoc (v * 2 ^ (sum ws + low)) (packed low ws vs) rest, add_assoc w (sum ws) low) (on_top w (sum ws + low) v (packed low ws vs + rest) f.0 k)

unpacked_packed : (low : ℕ) (ws vs : List ℕ) (rest : ℕ) → Fit ws vs → rest < 2 ^ low → unpacked low ws (packed low ws vs + rest) ≡ vs
unfolding packed unpacked sum Fit
unpacked_packed low [] [] rest f h = refl
unpacked_packed low [] (v ∷ vs) rest f h = elim f [ ]
unpacked_packed low (w ∷ ws) [] rest f h = elim f [ ]
unpacked_packed low (w ∷ ws) (v ∷ vs) rest f h =
    let k = packed_small low ws vs rest f.1 h in
    let a = add_assoc (v * 2 ^ (sum ws + low)) (packed low ws vs) rest in
    rw (
      a,
      field_top w (sum ws + low) v (packed low ws vs + rest) f.0 k,
      unpacked_below low ws v (packed low ws vs + rest),
      unpacked_packed low ws vs rest
          f.1 h,
    )

-- A word is its fields and the bits below them.
low_below : (s low q m : ℕ) → (q * 2 ^ (s + low) + m) % 2 ^ low ≡ m % 2 ^ low
low_below s low q m = rw (power_sum s low, ← mul_assoc q (2 ^ s) (2 ^ low)) (mul-add-mod_self_right (q * 2 ^ s) (2 ^ low) m)

packed_unpacked : (low : ℕ) (ws : List ℕ) (word : ℕ) → word < 2 ^ (sum ws + low) → packed low ws (unpacked low ws word) + word % 2 ^ low ≡ word
unfolding packed unpacked sum
packed_unpacked low [] word h = rw (zero-add (word % 2 ^ low)) (mod-eq_of_lt (rw (sym (zero-add low)) h))
packed_unpacked low (w ∷ ws) word h =
    let positive = power_positive (sum ws + low) in
    let e : word / 2 ^ (sum ws + low) * 2 ^ (sum ws + low) + word % 2 ^ (sum ws + low) ≡ word = div-add-mod' word (2 ^ (sum ws + low)) in
    let wide : word < 2 ^ w * 2 ^ (sum ws + low) = rw (← power_sum w (sum ws + low), ← add_assoc w (sum ws) low) h in
    let small = (div-lt_iff_lt-mul {k = 2 ^ (sum ws + low)} {x = word} {y = 2 ^ w} positive).1 wide in
    go (word / 2 ^ (sum ws + low)) (word % 2 ^ (sum ws + low)) e small (mod-lt word positive)
    (packed_unpacked low ws (word % 2 ^ (sum ws + low)) (mod-lt word positive))
  where
    go : (q m : ℕ) → q * 2 ^ (sum ws + low) + m ≡ word → q < 2 ^ w → m < 2 ^ (sum ws + low) → packed low ws (unpacked low ws m) + m % 2 ^ low ≡ m
        → field (sum ws + low) w word * 2 ^ (sum ws + low) + packed low ws (unpacked low ws word) + word % 2 ^ low ≡ word
    go q m e small k below =
        let low_bits : word % 2 ^ low ≡ m % 2 ^ low = ap (λ x. x % 2 ^ low) (sym e) ∙ low_below (sum ws) low q m in
        let same : unpacked low ws word ≡ unpacked low ws m = ap (λ x. unpacked low ws x) (sym e) ∙ unpacked_below low ws q m in
        let top : field (sum ws + low) w word ≡ q = ap (λ x. field (sum ws + low) w x) (sym e) ∙ field_top w (sum ws + low) q m small k in
        rw (top, same, low_bits)
        (add_assoc (q * 2 ^ (sum ws + low)) (packed low ws (unpacked low ws m)) (m % 2 ^ low) ∙ ap (λ x. q * 2 ^ (sum ws + low) + x) below ∙ e)

-- Each word of the five tables, and the fields that the second call reads.
key_laid : (o : Option (List Byte)) → key_word o ≡ laid keys_row (key_fields o)
unfolding key_word laid keys_row key_fields
key_laid none = refl
key_laid (some setting) = omega arith

section_laid : (header first measures n bpm : ℕ) → section_word header first measures n bpm ≡ laid sections_row (header ∷ first ∷ measures ∷ n ∷ bpm ∷ [])
unfolding section_word laid sections_row
section_laid header first measures n bpm = omega arith

measure_laid : (first beats : ℕ) → measure_word first beats ≡ laid measures_row (first ∷ beats ∷ [])
unfolding measure_word laid measures_row
measure_laid first beats = omega arith

beat_laid_lem : (o : Option Chord) (head : Bool) → beat_by o head ≡ laid beats_row (beat_fields o head)
unfolding beat_by laid beats_row beat_fields
beat_laid_lem none head = omega arith
beat_laid_lem (some c) head = omega arith

item_laid_lem : (p : Prompt) → item_word p ≡ laid items_row (item_fields p)
unfolding item_word laid items_row item_fields
item_laid_lem p = omega arith

pub words_laid : Laid
unfolding fields_of laid sections_row measures_row head_bit offset first_beat beat_count first_measure measure_count section_bpm
words_laid =
    record {
      read_back = λ r vs low f h. unpacked_packed (spare r) r.fields vs low f h;
      laid_back = λ r word h. packed_unpacked (spare r) r.fields word h;
      key = key_laid;
      section = section_laid;
      measure = measure_laid;
      beat = beat_laid_lem;
      item = item_laid_lem;
      head = (refl, refl);
      nowhere = refl;
      somewhere = λ b bs. refl;
      sought = λ word h. ap (λ x. x ∷ word / 2 ^ 5 % 2 ^ 6 ∷ []) (sym (mod-eq_of_lt (first_fits word h)));
      covered = λ word.
          ap (λ x. field 47 17 word ∷ word / 2 ^ 31 % 2 ^ 16 ∷ word / 2 ^ 15 % 2 ^ 16 ∷ field 9 6 word ∷ x % 2 ^ 9 ∷ []) (whole word);
    }
  where
    whole : (word : ℕ) → word ≡ word / 2 ^ 0
    whole word = omega arith

    first_fits : (word : ℕ) → word < 2 ^ 32 → word / 2 ^ 11 < 2 ^ 21
    first_fits word h = omega arith
