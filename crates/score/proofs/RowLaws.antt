-- The row of sections grows behind its last one.
use Prim.Native.Nat.{ℕ, ◌+◌, ◌-◌, ◌≤◌}
use mathlib.Core.Path.{◌≡◌, refl, sym, ap, ◌∙◌}
use mathlib.Core.List.{List, [], ◌∷◌, ◌++◌, append_assoc, append-nil, flat_map}
use native.Mathlib.Omega.{arith}
use lib.ListN.{length, take, drop, length-append}
use lib.Seq.{sets, sets-eq, take-append_seam, drop-append-le, length-take-le}
use Rattle.songcode.specs.Song.{Section, Song}
use Rattle.songcode.proofs.ListLaws.{drop_take}
use Rattle.songcode.proofs.MemoryLaws.{sets_behind}
use Rattle.score.specs.Sections.{section_row, sections_row}
use Rattle.score.specs.Fitting.{SectionFits, SectionsFit}
use Rattle.score.specs.Seen.{RowFrom}

rows_append : (s : Song) (xs : List Section) (x : Section) → sections_row s (xs ++ (x ∷ [])) ≡ sections_row s xs ++ section_row s x
unfolding sections_row flat_map
rows_append s [] x = append-nil (section_row s x)
rows_append s (y ∷ xs) x =
    ap (λ (ws : List ℕ). section_row s y ++ ws) (rows_append s xs x) ∙ sym (append_assoc (section_row s y) (flat_map (section_row s) xs) (section_row s x))

pub fits_append : (s : Song) (xs : List Section) (x : Section) → SectionsFit s xs → SectionFits s x → SectionsFit s (xs ++ (x ∷ []))
unfolding SectionsFit
fits_append s [] x f g = (g, tt)
fits_append s (y ∷ xs) x f g = (f.0, fits_append s xs x f.1 g)

-- No section stands there yet.
pub row_start : (s : Song) (ws : List ℕ) (at : ℕ) → at ≤ 100000 → RowFrom s ws at at []
unfolding sections_row flat_map
row_start s ws at h = record { words = refl; size = omega arith; few = h }

-- One more section is laid behind them.
pub row_grows : (s : Song) (old new : List ℕ) (first at end : ℕ) (xs : List Section) (x : Section) → RowFrom s old first at xs
    → new ≡ sets old at (section_row s x) → end ≡ at + length (section_row s x) → end ≤ length old → end ≤ 100000 → RowFrom s new first end (xs ++ (x ∷ []))
row_grows s old new first at end xs x r e f inside few =
    let rows = sections_row s xs in
    let row = section_row s x in
    let size = r.size in
    let k = length-append rows row in
    let n = length-take-le at old (omega arith) in
    let a : at - first ≡ length rows = omega arith in
    let b : drop first (take at old) ≡ rows =
    drop_take first at old ∙ rw (r.words, a) (take-append_seam rows (drop at old)) in
    let c : drop first (take at old ++ (row ++ drop end old)) ≡ drop first (take at old) ++ (row ++ drop end old) =
    drop-append-le first (take at old) (row ++ drop end old) (omega arith) in
    let g : new ≡ take at old ++ (row ++ drop end old) =
    e ∙ rw f (sets-eq row old at (omega arith) ∙ append_assoc (take at old) row (drop (at + length row) old)) in
    let h : drop end new ≡ drop end old = rw e (sets_behind at row old end (omega arith)) in
    record {
      words = ap (drop first) g ∙ c ∙ rw (b, h, rows_append s xs x) (sym (append_assoc rows row (drop end old)));
      size = rw (rows_append s xs x) (omega arith);
      few = few;
    }
