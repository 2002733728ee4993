-- The lines of a text are the lines at its spans, and an empty one behind a last line end. Everything that walks a text stands on this.
use Prim.Native.Nat.{ℕ, zero, suc, ◌+◌, ◌-◌, ◌<◌, ◌≤◌}
use mathlib.Core.Path.{◌≡◌, refl, sym, ap, ◌∙◌}
use mathlib.Core.List.{List, [], ◌∷◌, ◌++◌, map}
use mathlib.Core.Bool.{Bool, true, false}
use native.Mathlib.Numerals.{add-one}
use native.Mathlib.Omega.{arith}
use native.Mathlib.Nat.{add-zero}
use borrow.Author.Tests.{ltb-true, ltb-false}
use lib.Dec.{ltb}
use lib.ListN.{length, get_or, take, drop, drop_of_length-le, length-take, length-drop}
use lib.Seq.{drop-cons, drop-drop, take-take}
use Rattle.songcode.specs.Lists.{when, is_empty}
use Rattle.songcode.specs.Bytes.{placed}
use Rattle.songcode.specs.Answer.Lines.{Line, cut_lines, trimmed, numbered, lines, shut, join, runs, blocks}
use Rattle.songcode.specs.Answer.Answer.{blocks_of}
use Rattle.text.specs.Spans.{line_length, front_blanks, solid_length, line_of, line_at, spans_from, spans, line_text, ends_open}
use Rattle.text.proofs.TestLaws.{false_not_true}
use Rattle.songcode.proofs.ListLaws.{drop_take, by_cases}
use Rattle.text.proofs.WalkLaws.{whole, next_is, next_further, spans_next}
use Rattle.text.proofs.CutLaws.{ended, behind, cut_line, open_line, unended}
use Rattle.text.proofs.TrimLaws.{solid_le, trimmed_placed}

module _ (s : List ℕ) (n at : ℕ) where
  -- The text of the line at a place is its bytes, trimmed.
  line_text_lem : line_text s (line_at s n at) ≡ record { number = n; text = trimmed (placed at (take (line_length (drop at s)) (drop at s))) }
  unfolding line_of
  line_text_lem =
      let bs = drop at s in
      let len = line_length bs in
      let f = front_blanks (take len bs) in
      let u = take (len - f) (drop f bs) in
      let k = solid_length u in
      let size : at + f + k - (at + f) ≡ k = omega arith in
      let short : k ≤ len - f = omega (arith, solid_le u, length-take (len - f) (drop f bs)) in
      rw (size, ← (drop-drop f at s), trimmed_placed at (take len bs), drop_take f len bs, take-take k (len - f) (drop f bs) short) refl

  drop_next : drop (whole (drop at s)) (drop at s) ≡ drop (line_at s n at).next s
  drop_next = rw (next_is s n at, drop-drop (whole (drop at s)) at s)

  -- One line more, and what stands behind it.
  lines_next : numbered n (behind true (cut_lines (placed at (drop at s))))
      ≡ line_text s (line_at s n at) ∷ numbered (suc n) (behind (ended (drop at s)) (cut_lines (placed (line_at s n at).next (drop (line_at s n at).next s))))
  unfolding numbered behind
  lines_next = rw (line_text_lem, ← drop_next, next_is s n at, cut_line at (drop at s)) refl

  module _ (h : at < length s) where
    open_next : (t : Bool) → ends_open t (drop at s) ≡ ends_open (ended (drop at s)) (drop (line_at s n at).next s)
    open_next t =
        rw (← drop_next) (ap (λ (l : List ℕ). ends_open t l) c ∙ open_line t (get_or s at 0) (drop (suc at) s)
        ∙ ap (λ (l : List ℕ). ends_open (ended l) (drop (whole l) l)) (sym c))
      where
        c : drop at s ≡ get_or s at 0 ∷ drop (suc at) s
        c = drop-cons s at 0 h

    ended_next : ended (drop at s) ≡ false → length s ≤ (line_at s n at).next
    ended_next e =
        let l = length-drop (line_at s n at).next s in
        let z = ap length (sym drop_next ∙ unended (drop at s) e) in
        omega arith

-- What songcode reads from a place on, where the last line end before it, or none, gives the test; and what the walk from there on finds.
abbrev read : Bool → ℕ → ℕ → List ℕ → List Line
read t n at bs = numbered n (behind t (cut_lines (placed at bs)))

abbrev walked : List ℕ → Bool → ℕ → ℕ → List ℕ → List Line
walked s t n at bs = map (line_text s) (spans_from n at 0 bs) ++ when (ends_open t bs) (record { number = n + length (spans_from n at 0 bs); text = [] })

read_nil : (s : List ℕ) (t : Bool) (n at : ℕ) → read t n at [] ≡ walked s t n at []
unfolding numbered trimmed behind cut_lines placed spans_from ends_open when
read_nil s true n at = rw add-zero
read_nil s false n at = refl

read_over : (s : List ℕ) (t : Bool) (n at : ℕ) → length s ≤ at → read t n at (drop at s) ≡ walked s t n at (drop at s)
read_over s t n at h = rw (drop_of_length-le s h) (read_nil s t n at)

read_next : (s : List ℕ) (n at : ℕ) → at < length s → (m : ℕ) → m ≡ (line_at s n at).next
    → read (ended (drop at s)) (suc n) m (drop m s) ≡ walked s (ended (drop at s)) (suc n) m (drop m s)
    → read true n at (drop at s) ≡ walked s true n at (drop at s)
read_next s n at h m e ih =
    let more : (k : ℕ) → n + suc k ≡ suc n + k = λ k. omega arith in
    lines_next s n at ∙ rw (spans_next s n at h, open_next s n at h true, add-one n, ← e, more) (ap (λ (ls : List Line). line_text s (line_at s n at) ∷ ls) ih)

agree : (s : List ℕ) (fuel n at : ℕ) (t : Bool) → length s ≤ at + fuel → (t ≡ false → length s ≤ at) → read t n at (drop at s) ≡ walked s t n at (drop at s)
agree s zero n at t f g = read_over s t n at (omega arith)
agree s (suc fuel) n at false f g = read_over s false n at (g refl)
agree s (suc fuel) n at true f g =
    by_cases
    (ltb at (length s))
    (λ e. let h = ltb-true at (length s) e in
    let m = (line_at s n at).next in
    let k = next_further s n at h in
    read_next s n at h m refl (agree s fuel (suc n) m (ended (drop at s)) (omega arith) (ended_next s n at h)))
    (λ e. read_over s true n at (ltb-false at (length s) e))

-- The lines of a text.
pub lines_spans : (s : List ℕ) → lines (placed 0 s) ≡ map (line_text s) (spans s) ++ when (ends_open true s)
    (record { number = suc (length (spans s)); text = [] })
unfolding lines behind spans
lines_spans s =
    let k : 1 + length (spans_from 1 0 0 s) ≡ suc (length (spans_from 1 0 0 s)) = omega arith in
    agree s (length s) 1 0 true (omega arith) (λ e. absurd (false_not_true (sym e))) ∙ rw k refl

-- A last line that is empty is in no block.
runs_empty : (ls : List Line) (t : Bool) (n : ℕ) → runs (ls ++ when t (record { number = n; text = [] })) ≡ runs ls
unfolding runs join shut when is_empty
runs_empty [] true n = refl
runs_empty [] false n = refl
runs_empty (l ∷ ls) t n = rw (runs_empty ls t n)

blocks_empty : (ls : List Line) (t : Bool) (n : ℕ) → blocks (ls ++ when t (record { number = n; text = [] })) ≡ blocks ls
unfolding blocks
blocks_empty ls t n = rw (runs_empty ls t n)

-- The blocks of a text are those of the lines at its spans.
pub blocks_spans : (s : List ℕ) → blocks_of s ≡ blocks (map (line_text s) (spans s))
unfolding blocks_of
blocks_spans s = ap blocks (lines_spans s) ∙ blocks_empty (map (line_text s) (spans s)) (ends_open true s) (suc (length (spans s)))
