-- Lines passed over from a place of the text up to another: which they are, and their numbers.
use Prim.Native.Nat.{ℕ, zero, suc, ◌+◌, ◌-◌, ◌<◌}
use mathlib.Core.Path.{◌≡◌, refl, sym, ap, ◌∙◌, subst}
use mathlib.Core.List.{List, [], ◌∷◌, ◌++◌, map}
use native.Mathlib.Omega.{arith}
use lib.ListN.{length, take, drop}
use lib.Seq.{take_at}
use Rattle.songcode.specs.Lists.{taken, left}
use Rattle.songcode.specs.Answer.Lines.{Line}
use Rattle.songcode.proofs.ListLaws.{taken_left}
use Rattle.text.specs.Spans.{line_of, line_text, spans_from}
use Rattle.sections.specs.declared.runs.Run.{Run}
use Rattle.sections.specs.declared.runs.Test.{Test}
use Rattle.sections.specs.Runs.{text_lines, passing, lines_behind, Longest}
use Rattle.sections.proofs.RunLaws.{lines_next}

-- A run, and what stands behind it.
pub run_behind : (s : List ℕ) (t : Test) (n at : ℕ) (r : Run) → Longest s t n at r → text_lines s (n + r.lines) r.next ≡ left (passing t) (text_lines s n at)
unfolding lines_behind
run_behind s t n at r w = ap (λ (k : ℕ). text_lines s (k + r.lines) r.next) (sym w.number) ∙ w.behind

pub run_passed : (s : List ℕ) (t : Test) (n at : ℕ) (r : Run) → Longest s t n at r
    → text_lines s n at ≡ taken (passing t) (text_lines s n at) ++ text_lines s (n + r.lines) r.next
run_passed s t n at r w =
    sym (taken_left (passing t) (text_lines s n at)) ∙ ap (λ ls. taken (passing t) (text_lines s n at) ++ ls) (sym (run_behind s t n at r w))

-- Lines numbered one after another.
Counts : ℕ → List Line → Type 0
Counts n [] = Unit {0}
Counts n (l ∷ ls) = (l.number ≡ n) × Counts (suc n) ls

counts_spans : (s : List ℕ) (n at k : ℕ) (bs : List ℕ) → Counts n (map (line_text s) (spans_from n at k bs))
unfolding Counts spans_from line_of
counts_spans s n at k [] = tt
counts_spans s n at (suc k) (b ∷ bs) = counts_spans s n (suc at) k bs
counts_spans s n at zero (b ∷ bs) = (refl, counts_spans s (suc n) (suc at) ((line_of n at (b ∷ bs)).next - suc at) bs)

counts_lines : (s : List ℕ) (n at : ℕ) → Counts n (text_lines s n at)
unfolding text_lines
counts_lines s n at = counts_spans s n at 0 (drop at s)

counts_behind : (n : ℕ) (xs ys : List Line) → Counts n (xs ++ ys) → Counts (n + length xs) ys
unfolding Counts
counts_behind n [] ys h = let e : n + 0 ≡ n = omega arith in rw e h
counts_behind n (x ∷ xs) ys h = let e : n + suc (length xs) ≡ suc n + length xs = omega arith in rw e (counts_behind (suc n) xs ys h.1)

-- As many lines are passed over as the numbers say.
module _ (s : List ℕ) (n at m q : ℕ) (ls : List Line) (passed : text_lines s n at ≡ ls ++ text_lines s m q) (there : q < length s) where
  pub number_reached : m ≡ n + length ls
  unfolding Counts line_of
  number_reached =
      let c = counts_behind n ls (text_lines s m q) (subst (Counts n) passed (counts_lines s n at)) in
      (subst (Counts (n + length ls)) (lines_next s m q there) c).0

  pub lines_reached : take (m - n) (text_lines s n at) ≡ ls
  lines_reached = let e = number_reached in rw passed (take_at ls (text_lines s m q) (m - n) (omega arith))
