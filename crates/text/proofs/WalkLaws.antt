-- From line to line: the line at a place from its pieces, and what is left behind it. The law of a loop over lines is spans-next.
use Prim.Native.Nat.{ℕ, zero, suc, ◌+◌, ◌-◌, ◌<◌, ◌≤◌}
use mathlib.Core.Path.{◌≡◌, refl, sym, ap, ◌∙◌}
use mathlib.Core.List.{List, [], ◌∷◌}
use native.Mathlib.Numerals.{add-one}
use native.Mathlib.Omega.{arith}
use native.Mathlib.Nat.{add-zero}
use borrow.Author.Tests.{eqb-true, eqb-false}
use lib.Dec.{eqb}
use lib.ListN.{length, get_or, take, drop, drop_of_length-le, length-take, length-drop}
use lib.Seq.{drop-cons, drop-drop}
use Rattle.songcode.specs.Lists.{is_empty}
use Rattle.songcode.specs.Bytes.{placed}
use Rattle.songcode.specs.Answer.Lines.{Ending, lf, cr, inside}
use Rattle.songcode.proofs.ListLaws.{by_cases}
use Rattle.text.specs.declared.lines.Line.{Line}
use Rattle.text.specs.Spans.{end, part, longer, line_length, break_width, break_length, front_blanks, solid_length, line_of, line_at, Found, spans_from}
use Rattle.text.proofs.SpanLaws.{by_ending}

-- A part is as long as its places say.
pub part_length : (s : List ℕ) (a e : ℕ) → e ≤ length s → length (part a e s) ≡ e - a
part_length s a e h = simp (length-take, length-drop) (omega arith)

-- A line is blank where its places are the same.
pub empty_line : (s : List ℕ) (a e : ℕ) → a ≤ e → e ≤ length s → is_empty (placed a (part a e s)) ≡ eqb a e
unfolding is_empty placed
empty_line s a e p q =
    by_cases
    (eqb a e)
    (λ t. let k : e - a ≡ 0 = omega (arith, eqb-true a e t) in rw (t, k))
    (λ t. let n = eqb-false a e t in
    let k : e - a ≡ suc (e - suc a) = omega arith in rw (t, k, drop-cons s a 0 (omega arith)))

-- What the code finds, piece by piece, is the line.
pub line_is : (s : List ℕ) (n at e f k w : ℕ) → e ≡ at + line_length (drop at s) → f ≡ front_blanks (part at e s) → k ≡ solid_length (part (at + f) e s)
    → w ≡ break_length (drop e s)
    → record { number = n; start = at + f; stop = at + f + k; next = e + w } ≡ line_at s n at
unfolding line_of
line_is s n at e f k w p q r t =
    let len = line_length (drop at s) in
    let i : e - at ≡ len = omega arith in
    let j : e - (at + f) ≡ len - f = omega arith in
    let q2 : f ≡ front_blanks (take len (drop at s)) = rw i at q in
    let r2 : k ≡ solid_length (take (len - f) (drop f (drop at s))) = rw (drop-drop f at s, ← j) r in
    let t2 : w ≡ break_length (drop len (drop at s)) = rw (drop-drop len at s, ← p) t in
    rw (r2, t2, p, q2) refl

pub line_past : (s : List ℕ) (n at : ℕ) → length s ≤ at → record { number = n; start = at; stop = at; next = at } ≡ line_at s n at
unfolding line_of line_length front_blanks solid_length break_length
line_past s n at h = rw (drop_of_length-le s h) (simp add-zero)

-- How many bytes a line has with its line end; the place of the next.
abbrev pub whole : List ℕ → ℕ
whole bs = line_length bs + break_length (drop (line_length bs) bs)

pub next_is : (s : List ℕ) (n at : ℕ) → (line_at s n at).next ≡ at + whole (drop at s)
unfolding line_of
next_is s n at = omega arith

-- A line that is there has a byte or a line end, so the next one stands further on.
pub cr_breaks : (next : Ending) → 0 < break_width cr next
unfolding break_width
cr_breaks lf = omega arith
cr_breaks cr = omega arith
cr_breaks inside = omega arith

line_has : (bs : List ℕ) → 0 < length bs → 0 < whole bs
unfolding line_length longer break_length break_width
line_has [] h = absurd (omega arith)
line_has (b ∷ bs) h = by_ending b (λ e. rw e (omega arith)) (λ e. rw (e, e) (omega arith)) (λ e. rw (e, e) (omega (arith, cr_breaks (end (get_or bs 0 0)))))

pub line_onward : (s : List ℕ) (at e w : ℕ) → at < length s → e ≡ at + line_length (drop at s) → w ≡ break_length (drop e s) → at < e + w
line_onward s at e w h p q =
    let l = length-drop at s in
    let d : drop e s ≡ drop (line_length (drop at s)) (drop at s) = rw (drop-drop (line_length (drop at s)) at s, ← p) refl in
    let k : w ≡ break_length (drop (line_length (drop at s)) (drop at s)) = rw (← d) q in
    let z = line_has (drop at s) (omega arith) in
    omega arith

pub next_further : (s : List ℕ) (n at : ℕ) → at < length s → at < (line_at s n at).next
next_further s n at h =
    let l = length-drop at s in
    omega (arith, next_is s n at, line_has (drop at s) (omega arith))

-- The bytes of the line before are passed over.
passed : (n at k : ℕ) (bs : List ℕ) → spans_from n at k bs ≡ spans_from n (at + k) 0 (drop k bs)
unfolding spans_from
passed n at zero bs = rw add-zero
passed n at (suc k) [] = refl
passed n at (suc k) (b ∷ bs) = let e : suc at + k ≡ at + suc k = omega arith in passed n (suc at) k bs ∙ rw e refl

-- What is left at a place is the line there, and what is left at the next one.
pub spans_next : (s : List ℕ) (n at : ℕ) → at < length s
    → spans_from n at 0 (drop at s) ≡ line_at s n at ∷ spans_from (n + 1) (line_at s n at).next 0 (drop (line_at s n at).next s)
unfolding spans_from
spans_next s n at h =
    let p = next_further s n at h in
    let m = (line_at s n at).next in
    let c = drop-cons s at 0 h in
    let k : suc at + (m - suc at) ≡ m = omega arith in
    let d : drop (m - suc at) (drop (suc at) s) ≡ drop m s = drop-drop (m - suc at) (suc at) s ∙ ap (λ (x : ℕ). drop x s) k in
    let rest = passed (suc n) (suc at) (m - suc at) (drop (suc at) s) in
    let there : spans_from (suc n) (suc at) (m - suc at) (drop (suc at) s) ≡ spans_from (n + 1) m 0 (drop m s) = rest ∙ rw (k, d, add-one n) refl in
    ap (λ (l : List ℕ). spans_from n at 0 l) c
    ∙ ap (λ (l : List ℕ). line_of n at l ∷ spans_from (suc n) (suc at) ((line_of n at l).next - suc at) (drop (suc at) s)) (sym c)
    ∙ ap (λ (ls : List Line). line_at s n at ∷ ls) there

-- The same by the line as it was found.
pub spans_found : {s : List ℕ} {n at : ℕ} {l : Line} → Found s n at l → at < length s
    → spans_from n at 0 (drop at s) ≡ l ∷ spans_from (n + 1) l.next 0 (drop l.next s)
spans_found {s} {n} {at} f h = rw f.is (spans_next s n at h)

pub spans_over : (s : List ℕ) (n at : ℕ) → length s ≤ at → spans_from n at 0 (drop at s) ≡ []
unfolding spans_from
spans_over s n at h = rw (drop_of_length-le s h)
