-- The digits of a count are the last bytes of its line, and as many as the number has when it is written.
use Prim.Native.Nat.{ℕ, ◌+◌, ◌-◌, ◌*◌, ◌<◌, ◌≤◌}
use mathlib.Core.Path.{◌≡◌, refl, sym, ap, ◌∙◌}
use mathlib.Core.List.{List, [], ◌∷◌, ◌++◌, append_assoc}
use mathlib.Core.Option.{some}
use native.Mathlib.Omega.{arith}
use borrow.Author.Tests.{lt-ltb, le-ltb, ltb-true, ltb-false}
use lib.Dec.{ltb}
use lib.ListN.{length, drop, length-append, length-drop}
use lib.Seq.{drop_at}
use Rattle.songcode.specs.Lists.{provided◌then◌else◌}
use Rattle.songcode.specs.Bytes.{Byte}
use Rattle.songcode.specs.Apart.{Decimal, digit, more_digits}
use Rattle.songcode.specs.Seams.{number_written}
use Rattle.songcode.specs.Answer.Lyrics.{words_of}
use Rattle.songcode.specs.Description.WrittenLyrics.{CountedLine}
use Rattle.songcode.proofs.ByteLaws.{length_placed}
use Rattle.songcode.proofs.DecimalAgree.{decimal_exact}
use Rattle.songcode.proofs.ListLaws.{by_cases}
use Rattle.songcode.proofs.LyricLineAgree.{count_exact}
use Rattle.songcode.proofs.NumbersAgree.{decimal_short}
use Rattle.songcode.proofs.SeamsHold.{seams_hold}

-- As the code tells them apart.
abbrev pub digit_count : ℕ → ℕ
digit_count n = provided ltb n 10 then 1 else (provided ltb n 100 then 2 else (provided ltb n 1000 then 3 else 4))

one_more_lem : (n d : ℕ) → 1 ≤ n → d < 10 → n * 10 + d ≤ 9999 → digit_count (n * 10 + d) ≡ digit_count n + 1
unfolding provided◌then◌else◌
one_more_lem n d low h few =
    let a : 10 ≤ n * 10 + d = omega arith in
    by_cases (ltb n 10)
    (λ e. let k = ltb-true n 10 e in
    let b : n * 10 + d < 100 = omega arith in rw (e, le-ltb (n * 10 + d) 10 a, lt-ltb (n * 10 + d) 100 b) refl)
    (λ e.
    let k = ltb-false n 10 e in
    let b : 100 ≤ n * 10 + d = omega arith in
    by_cases (ltb n 100)
    (λ f.
    let l = ltb-true n 100 f in
    let c : n * 10 + d < 1000 = omega arith in
    rw (e, f, le-ltb (n * 10 + d) 10 a, le-ltb (n * 10 + d) 100 b, lt-ltb (n * 10 + d) 1000 c) refl)
    (λ f.
    let l = ltb-false n 100 f in
    let c : 1000 ≤ n * 10 + d = omega arith in
    let m : n < 1000 = omega arith in
    rw (e, f, lt-ltb n 1000 m, le-ltb (n * 10 + d) 10 a, le-ltb (n * 10 + d) 100 b, le-ltb (n * 10 + d) 1000 c) refl))

decimal_length : {ds : List Byte} {n : ℕ} → Decimal ds n → n ≤ 9999 → length ds ≡ digit_count n
unfolding provided◌then◌else◌
decimal_length (digit b d h e) few = rw (lt-ltb d 10 h) refl
decimal_length (more_digits {ds} {zs} {n} b d k low h e z) few =
    let i = decimal_length k (omega arith) in
    let l = length-append ds (b ∷ []) in
    ap length z ∙ l ∙ ap (λ (x : ℕ). x + 1) i ∙ sym (one_more_lem n d low h few)

pub written_length : (n : ℕ) → n ≤ 9999 → digit_count n ≡ length (number_written n)
written_length n h = sym (decimal_length (seams_hold.number_written_lem n 0) h) ∙ length_placed 0 (number_written n)

-- The digits of a line's count have as many.
digits_length : {text words : List Byte} {n : ℕ} (c : CountedLine text words n) → length c.digits ≡ length (number_written n)
digits_length {text} {words} {n} c =
    decimal_length ((decimal_exact c.digits n).0 (c.number.decimal, sym c.number.says)) c.number.at_most
    ∙ written_length n c.number.at_most

-- So the last bytes of the line are these digits.
digits_last : {text words : List Byte} {n : ℕ} (c : CountedLine text words n) → drop (length text - length (number_written n)) text ≡ c.digits
digits_last {text} {words} {n} c =
    let front = words ++ (c.gap ++ (c.under ∷ [])) in
    let split : text ≡ front ++ c.digits =
    c.written ∙ sym (append_assoc words (c.gap ++ (c.under ∷ [])) c.digits ∙ ap (λ (bs : List Byte). words ++ bs)
    (append_assoc c.gap (c.under ∷ []) c.digits)) in
    let l = ap length split ∙ length-append front c.digits in
    let d = digits_length c in
    let k : length front ≡ length text - length (number_written n) = omega arith in
    ap (drop (length text - length (number_written n))) split ∙ drop_at front c.digits (length text - length (number_written n)) k

pub digits_inside : (text : List Byte) (n : ℕ) → (words_of text).count ≡ some n → (1 ≤ length (number_written n)) × (length (number_written n) ≤ length text)
digits_inside text n e =
    let c = ((count_exact text n).0 e).1 in
    let d = digits_length c in
    let some-digit = (decimal_short c.digits c.number.decimal).0 in
    let l = ap length (digits_last c) in
    (omega arith, inside c.digits l d)
  where
    inside : (ds : List Byte) → length (drop (length text - length (number_written n)) text) ≡ length ds → length ds ≡ length (number_written n)
        → length (number_written n) ≤ length text
    inside ds l d = let k = length-drop (length text - length (number_written n)) text in omega arith
