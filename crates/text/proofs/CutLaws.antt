-- A text cut at its first line end: what songcode's cutLines does, line by line.
use Prim.Native.Nat.{ℕ, suc, ◌+◌}
use mathlib.Core.Path.{◌≡◌, refl, sym}
use mathlib.Core.List.{List, [], ◌∷◌}
use mathlib.Core.Bool.{Bool, true, false}
use native.Mathlib.Omega.{arith}
use native.Mathlib.Numerals.{add-one}
use native.Mathlib.Nat.{suc-add}
use borrow.Author.Tests.{ltb-false}
use lib.Dec.{ltb}
use lib.ListN.{get_or, take, drop}
use Rattle.songcode.specs.Lists.{provided◌then◌else◌}
use Rattle.songcode.specs.Bytes.{Byte, placed}
use Rattle.songcode.specs.Answer.Lines.{cr, ending_of, LineCut, put, cut_lines}
use Rattle.text.specs.Spans.{end, longer, line_length, break_width, break_length, is_end, ends_open}
use Rattle.text.proofs.TestLaws.{false_not_true}
use Rattle.text.proofs.SpanLaws.{by_ending}
use Rattle.text.proofs.WalkLaws.{whole, cr_breaks}

-- The line in front has a line end.
abbrev pub ended : List ℕ → Bool
ended bs = ltb 0 (break_length (drop (line_length bs) bs))

-- The lines behind a line: where it has no line end there are none.
unfoldable pub behind : Bool → LineCut → List (List Byte)
behind true c = c.first ∷ c.others
behind false c = []

-- The first line is what stands before the line end; the others are the lines of what stands behind it.
abbrev Cuts : ℕ → List ℕ → Type 0
Cuts at bs =
    cut_lines (placed at bs) ≡ record {
      first = placed at (take (line_length bs) bs);
      others = behind (ended bs)
          (cut_lines (placed (at + whole bs) (drop (whole bs) bs)));
    }

cut_cr : (at b : ℕ) (bs : List ℕ) → end b ≡ cr → Cuts at (b ∷ bs)
unfolding cut_lines ending_of placed put line_length longer break_length break_width behind provided◌then◌else◌
cut_cr at b [] e = rw (e, e)
cut_cr at b (c ∷ bs) e =
    let two : at + 2 ≡ suc (suc at) = omega arith in
    by_ending c (λ f. rw (e, e, f, add-one at, f)) (λ f. rw (e, e, f, two)) (λ f. rw (e, e, f, add-one at, f))

pub cut_line : (at : ℕ) (bs : List ℕ) → Cuts at bs
unfolding cut_lines placed put line_length longer break_length break_width behind
cut_line at [] = refl
cut_line at (b ∷ bs) =
    let k : at + suc (whole bs) ≡ suc at + whole bs = omega arith in
    by_ending b (λ e. rw (e, suc-add, k, cut_line (suc at) bs)) (λ e. rw (e, e, add-one at)) (λ e. cut_cr at b bs e)

-- A text ends open if what stands behind its first line does.
open_cr : (t : Bool) (b : ℕ) (bs : List ℕ) → end b ≡ cr → ends_open t (b ∷ bs) ≡ ends_open (ended (b ∷ bs)) (drop (whole (b ∷ bs)) (b ∷ bs))
unfolding ends_open is_end line_length longer break_length break_width provided◌then◌else◌
open_cr t b [] e = rw (e, e)
open_cr t b (c ∷ bs) e = by_ending c (λ f. rw (e, e, f, f)) (λ f. rw (e, e, f)) (λ f. rw (e, e, f, f))

pub open_line : (t : Bool) (b : ℕ) (bs : List ℕ) → ends_open t (b ∷ bs) ≡ ends_open (ended (b ∷ bs)) (drop (whole (b ∷ bs)) (b ∷ bs))
unfolding ends_open is_end line_length longer break_length break_width
open_line t b [] = by_ending b (λ e. rw e) (λ e. rw (e, e)) (λ e. open_cr t b [] e)
open_line t b (c ∷ bs) =
    by_ending b (λ e. rw (e, suc-add) (open_line false c bs)) (λ e. rw (e, e)) (λ e. open_cr t b (c ∷ bs) e)

-- A line without a line end is the last.
pub unended : (bs : List ℕ) → ended bs ≡ false → drop (whole bs) bs ≡ []
unfolding line_length longer break_length break_width
unended [] h = refl
unended (b ∷ bs) h =
    by_ending
    b
    (λ e. let g : ended bs ≡ false = rw e at h in rw (e, suc-add) (unended bs g))
    (λ e. let g : true ≡ false = rw (e, e) at h in absurd (false_not_true (sym g)))
    (λ e. let g : ltb 0 (break_width cr (end (get_or bs 0 0))) ≡ false = rw (e, e) at h in absurd
    (omega (arith, ltb-false 0 (break_width cr (end (get_or bs 0 0))) g, cr_breaks (end (get_or bs 0 0)))))
